-- What is drawn from a state, with the state that it leaves.
use Rattle.std.specs.Prelude.{ℕ, zero, suc, ◌+◌, ◌*◌, ◌/◌, ◌%◌, ◌^◌, List, [], ◌∷◌, ◌++◌}

-- a value that is drawn, and the state after it
pub record Drawn (A : Type 0) : Type 0 where
  pub value : A
  pub state : ℕ

-- the state after this one
unfoldable pub next : ℕ → ℕ
next state = (state * 6364136223846793005 + 1442695040888963407) % 2 ^ 64

-- a number below n, of the new state's high bits
unfoldable pub draw : ℕ → ℕ → Drawn ℕ
draw n state = record { value = next state / 8589934592 % n; state = next state }

-- the first so many of numbered values, one after another
unfoldable pub several : {A : Type 0} → (ℕ → ℕ → Drawn A) → ℕ → ℕ → Drawn (List A)
several item zero state = record { value = []; state = state }
several item (suc count) state =
    let before = several item count state in
    let last = item count before.state in
    record { value = before.value ++ last.value ∷ []; state = last.state }

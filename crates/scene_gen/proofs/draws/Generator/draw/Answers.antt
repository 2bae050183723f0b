use Rattle.std.proofs.Common.{◌≡◌, ℕ, ◌+◌, ◌*◌, ◌/◌, ◌%◌, ◌^◌, ◌∙◌, ap}
use Rattle.std.proofs.Math.Nat.{mod-add-mod}
use Rattle.scene_gen.specs.Draws.{next, draw}
use Rattle.scene_gen.proofs.draws.Generator.draw.Goals as goal

-- a product that wraps, and a sum that wraps, are one step
stepped : (state : ℕ) → (state * 6364136223846793005 % 2 ^ 64 + 1442695040888963407) % 2 ^ 64 ≡ next state
unfolding next
stepped state = mod-add-mod (state * 6364136223846793005) (2 ^ 64) 1442695040888963407

pub returns-clause-value : goal.returns-clause-value
unfolding draw
returns-clause-value c =
    ap (λ (s : ℕ). s / 8589934592 % c.from.result) (stepped c.args.self.now.state)
    ∙ ap (λ (n : ℕ). next c.args.self.now.state / 8589934592 % n) c.from.ensures

pub returns-clause-state : goal.returns-clause-state
unfolding draw
returns-clause-state c = stepped c.args.self.now.state

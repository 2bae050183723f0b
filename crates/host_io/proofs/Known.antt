-- Known bytes over several tries.
use Rattle.std.proofs.Common.{◌≡◌, ◌↔◌, ℕ, ◌<◌, List, [], ◌++◌, length, take, length-append, Option, Some, None, IfSome, Result, Ok, Err, IfOk, refl, sym, ◌∙◌, ap, arith}
use Rattle.std.specs.Io.{ReadsAtMost}
use Rattle.std.specs.Io.KnownBytes.{Consumes, Appends, Keeps, IsAtEnd, ReadConsumes}
use Rattle.std.proofs.lemmas.List.{append-nil}

pub keeps_none : (a : Option (List ℕ)) → Keeps a a
keeps_none None = tt
keeps_none (Some xs) = refl

pub keeps_both : (a b c : Option (List ℕ)) → Keeps a b → Keeps b c → Keeps a c
keeps_both None b c p q = tt
keeps_both (Some xs) None c p q = absurd p
keeps_both (Some xs) (Some ys) None p q = absurd q
keeps_both (Some xs) (Some ys) (Some zs) p q = q ∙ p

pub kept_consumes : (a b c : Option (List ℕ)) (bytes : List ℕ) → Keeps a b → Consumes b c bytes → Consumes a c bytes
kept_consumes None b c bytes p q = tt
kept_consumes (Some xs) None c bytes p q = absurd p
kept_consumes (Some xs) (Some ys) None bytes p q = absurd q
kept_consumes (Some xs) (Some ys) (Some zs) bytes p q = sym p ∙ q

pub kept_appends : (a b c : Option (List ℕ)) (bytes : List ℕ) → Keeps a b → Appends b c bytes → Appends a c bytes
kept_appends None b c bytes p q = tt
kept_appends (Some xs) None c bytes p q = absurd p
kept_appends (Some xs) (Some ys) None bytes p q = absurd q
kept_appends (Some xs) (Some ys) (Some zs) bytes p q = q ∙ ap (λ l. l ++ bytes) p

-- nothing was appended
pub appended_none : (a b : Option (List ℕ)) → Appends a b [] → Keeps a b
appended_none None b p = tt
appended_none (Some xs) None p = absurd p
appended_none (Some xs) (Some ys) p = p ∙ append-nil xs

-- where there was room, nothing was read exactly where nothing was left
pub nothing_left_here : (a b : Option (List ℕ)) (n : ℕ) (into : List ℕ) → n ≡ length (take n into) → 0 < length into → Consumes a b (take n into)
    → (n ≡ 0 → 0 < length into → IsAtEnd b) → IfSome a (λ bytes. (n ≡ 0) ↔ (bytes ≡ []))
nothing_left_here None b n into len room p end = tt
nothing_left_here (Some xs) None n into len room p end = absurd p
nothing_left_here (Some xs) (Some ys) n into len room p end = (
  λ none. p ∙ ap (λ k. take k into ++ ys) none ∙ end none room,
  λ none. omega (arith, len, ap length p, ap length none, length-append (take n into) ys),
)

pub nothing_left : {E : Type 0} → (a b : Option (List ℕ)) (r : Result ℕ E) (into : List ℕ) → ReadsAtMost r into → ReadConsumes a b r into
    → IfOk r (λ n. 0 < length into → IfSome a (λ bytes. (n ≡ 0) ↔ (bytes ≡ [])))
nothing_left a b (Ok n) into bound bytes = λ room. nothing_left_here a b n into bound.1 room bytes.0 bytes.1
nothing_left a b (Err e) into bound bytes = tt

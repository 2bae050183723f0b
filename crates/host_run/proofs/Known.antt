-- Several reads, one after another.
use Rattle.std.proofs.Common.{ℕ, List, [], ◌++◌, Option, Some, None, refl, sym, ◌∙◌, ap, append_assoc, length, ◌<◌, length-append, arith}
use Rattle.std.specs.Prelude.{IfSome}
use Rattle.host_run.specs.Input.{TakesSome}
use Rattle.std.specs.Io.KnownBytes.{Consumes, Keeps}

pub consumes_none : (a : Option (List ℕ)) → Consumes a a []
consumes_none None = tt
consumes_none (Some xs) = refl

pub consumes_more : (a b c : Option (List ℕ)) (xs ys : List ℕ) → Consumes a b xs → Consumes b c ys → Consumes a c (xs ++ ys)
consumes_more None b c xs ys p q = tt
consumes_more (Some us) None c xs ys p q = absurd p
consumes_more (Some us) (Some vs) None xs ys p q = absurd q
consumes_more (Some us) (Some vs) (Some ws) xs ys p q = p ∙ ap (λ zs. xs ++ zs) q ∙ sym (append_assoc xs ys ws)

pub consumes_kept : (a b c : Option (List ℕ)) (xs : List ℕ) → Consumes a b xs → Keeps b c → Consumes a c xs
consumes_kept None b c xs p q = tt
consumes_kept (Some us) None c xs p q = absurd p
consumes_kept (Some us) (Some vs) None xs p q = absurd q
consumes_kept (Some us) (Some vs) (Some ws) xs p q = p ∙ ap (λ zs. xs ++ zs) (sym q)

pub takes_after : (a b c : Option (List ℕ)) (xs : List ℕ) → Consumes a b xs → TakesSome b c → TakesSome a c
takes_after a b c xs p q = (xs ++ q.0, consumes_more a b c xs q.0 p q.1)

-- more than a number of bytes were taken, so more were there
pub longer : (a b : Option (List ℕ)) (xs : List ℕ) (n : ℕ) → Consumes a b xs → n < length xs → IfSome a (λ bytes. n < length bytes)
longer None b xs n p h = tt
longer (Some us) None xs n p h = absurd p
longer (Some us) (Some vs) xs n p h = omega (arith, length-append xs vs, ap length p)

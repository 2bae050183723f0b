-- Several writes, one after another.
use Rattle.std.proofs.Common.{◌≡◌, ℕ, List, [], ◌++◌, Option, Some, None, refl, sym, ◌∙◌, ap, append_assoc, ◌-◌, ◌≤◌, length, take, drop, length-drop, Result, Ok, Err, arith}
use Rattle.std.specs.Prelude.{IfOk, OnErr, OnOk}
use Rattle.frame_span.specs.Written.{IsPrefix, AppendsFront}
use Rattle.std.specs.Io.KnownBytes.{Appends, Keeps}
use Rattle.std.proofs.lemmas.List.{append-nil, take_all, take-append-drop}

pub appends_none : (a : Option (List ℕ)) → Appends a a []
appends_none None = tt
appends_none (Some xs) = sym (append-nil xs)

pub appends_more : (a b c : Option (List ℕ)) (xs ys : List ℕ) → Appends a b xs → Appends b c ys → Appends a c (xs ++ ys)
appends_more None b c xs ys p q = tt
appends_more (Some us) None c xs ys p q = absurd p
appends_more (Some us) (Some vs) None xs ys p q = absurd q
appends_more (Some us) (Some vs) (Some ws) xs ys p q = q ∙ ap (λ zs. zs ++ ys) p ∙ append_assoc us xs ys

pub appends_kept : (a b c : Option (List ℕ)) (xs : List ℕ) → Appends a b xs → Keeps b c → Appends a c xs
appends_kept None b c xs p q = tt
appends_kept (Some us) None c xs p q = absurd p
appends_kept (Some us) (Some vs) None xs p q = absurd q
appends_kept (Some us) (Some vs) (Some ws) xs p q = q ∙ p

-- a piece that is cut in two
pub take-append-rest : (n : ℕ) (xs : List ℕ) → n ≤ length xs → take n xs ++ take (length xs - n) (drop n xs) ≡ xs
take-append-rest n xs h =
    let whole : length (drop n xs) ≤ length xs - n = omega (arith, length-drop n xs) in
    ap (λ ys. take n xs ++ ys) (take_all (length xs - n) (drop n xs) whole) ∙ take-append-drop n xs

pub on_err : {T E : Type 0} (r : Result T E) (P : Type 0) → P → OnErr r P
on_err (Ok x) P p = tt
on_err (Err e) P p = p

pub on_ok_map : {T E P Q : Type 0} (r : Result T E) → (P → Q) → OnOk r P → OnOk r Q
on_ok_map (Ok x) f p = f p
on_ok_map (Err e) f p = tt

pub if_ok_map : {T E : Type 0} {P Q : T → Type 0} (r : Result T E) → ((x : T) → P x → Q x) → IfOk r P → IfOk r Q
if_ok_map (Ok x) f p = f x p
if_ok_map (Err e) f p = tt

pub on_err_map : {T E P Q : Type 0} (r : Result T E) → (P → Q) → OnErr r P → OnErr r Q
on_err_map (Ok x) f p = tt
on_err_map (Err e) f p = f p

pub prefix_more : (p q rest : List ℕ) → IsPrefix p q → IsPrefix p (q ++ rest)
prefix_more p q rest h = (h.0 ++ rest, sym (append_assoc p h.0 rest) ∙ ap (λ xs. xs ++ rest) h.1)

pub prefix_behind : (front p q : List ℕ) → IsPrefix p q → IsPrefix (front ++ p) (front ++ q)
prefix_behind front p q h = (h.0, append_assoc front p h.0 ∙ ap (λ xs. front ++ xs) h.1)

pub prefix_trans : (p q r : List ℕ) → IsPrefix p q → IsPrefix q r → IsPrefix p r
prefix_trans p q r h k = (h.0 ++ k.0, sym (append_assoc p h.0 k.0) ∙ ap (λ xs. xs ++ k.0) h.1 ∙ k.1)

-- a front of the bytes is a front of what begins with them
pub front_of : (a b : Option (List ℕ)) (xs whole : List ℕ) → AppendsFront a b xs → IsPrefix xs whole → AppendsFront a b whole
front_of a b xs whole h p = (h.0, h.1, prefix_trans h.0 xs whole h.2 p)

-- after some bytes, a front of the next
pub front_after : (a b c : Option (List ℕ)) (xs ys whole : List ℕ) → Appends a b xs → AppendsFront b c ys → IsPrefix (xs ++ ys) whole → AppendsFront a c whole
front_after a b c xs ys whole h k p =
    (xs ++ k.0, appends_more a b c xs k.0 h k.1, prefix_trans (xs ++ k.0) (xs ++ ys) whole (prefix_behind xs k.0 ys k.2) p)

pub keeps_none : (a : Option (List ℕ)) → Keeps a a
keeps_none None = tt
keeps_none (Some xs) = refl

-- Lists that are mapped, and items at a place.
use Rattle.std.proofs.Common.{◌≡◌, ℕ, zero, suc, ◌+◌, ◌<◌, Bool, true, false, not, cond, List, [], ◌∷◌, ◌++◌, length, set, refl, sym, ap, ap₂, ◌∙◌, arith, ltb}
use Rattle.std.specs.Prelude.{Option, Some, None, find, map, position, remove, slice_get, option_map, Result, Ok, Err, OnOk, OnErr, IfNone}
use Rattle.std.specs.List.{position_or_len}

pub some_from : {X : Type 0} {x y : X} → Some x ≡ Some y → x ≡ y
some_from e = cc

-- a place of a list that is mapped
pub slice_get-map : {X Y : Type 0} (f : X → Y) (xs : List X) (i : ℕ) → slice_get (map f xs) i ≡ option_map f (slice_get xs i)
slice_get-map f [] i = refl
slice_get-map f (x ∷ xs) zero = refl
slice_get-map f (x ∷ xs) (suc i) = slice_get-map f xs i

pub length-map : {X Y : Type 0} (f : X → Y) (xs : List X) → length (map f xs) ≡ length xs
length-map f [] = refl
length-map f (x ∷ xs) = ap suc (length-map f xs)

pub remove-map : {X Y : Type 0} (f : X → Y) (xs : List X) (i : ℕ) → remove (map f xs) i ≡ map f (remove xs i)
remove-map f [] zero = refl
remove-map f [] (suc i) = refl
remove-map f (x ∷ xs) zero = refl
remove-map f (x ∷ xs) (suc i) = ap (λ l. f x ∷ l) (remove-map f xs i)

pub map-append : {X Y : Type 0} (f : X → Y) (xs ys : List X) → map f (xs ++ ys) ≡ map f xs ++ map f ys
map-append f [] ys = refl
map-append f (x ∷ xs) ys = ap (λ l. f x ∷ l) (map-append f xs ys)

pub set-map : {X Y : Type 0} (f : X → Y) (xs : List X) (i : ℕ) (x : X) → set (map f xs) i (f x) ≡ map f (set xs i x)
set-map f [] i x = refl
set-map f (y ∷ xs) zero x = refl
set-map f (y ∷ xs) (suc i) x = ap (λ l. f y ∷ l) (set-map f xs i x)

-- the place of a mapped item that passes is that of one that passes before the map
pub position-map : {X Y : Type 0} (f : X → Y) (p : Y → Bool) (q : X → Bool) → ((x : X) → p (f x) ≡ q x) → (xs : List X) → position p (map f xs) ≡ position q xs
position-map {X = X} f p q same xs = ap₂ (λ a b. cond (ltb a b) (Some a) None) (first xs) (length-map f xs)
  where
    first : (xs : List X) → position_or_len p (map f xs) ≡ position_or_len q xs
    first [] = refl
    first (x ∷ xs) = ap₂ (λ a b. cond (not a) (1 + b) 0) (same x) (first xs)

-- a fact on Ok, from two
pub on_ok_from : {T E A B C : Type 0} (r : Result T E) → OnOk r A → OnOk r B → (A → B → C) → OnOk r C
on_ok_from (Ok x) a b f = f a b
on_ok_from (Err e) a b f = tt

-- an item that is set is there
pub slice_get-set : {X : Type 0} (xs : List X) (i : ℕ) (x y : X) → slice_get xs i ≡ Some x → slice_get (set xs i y) i ≡ Some y
slice_get-set [] i x y at = absurd (cc)
slice_get-set (z ∷ xs) zero x y at = refl
slice_get-set (z ∷ xs) (suc i) x y at = slice_get-set xs i x y at

-- there is an item at a place within a list
pub some_at : {X : Type 0} (xs : List X) (i : ℕ) → i < length xs → (x : X) × (slice_get xs i ≡ Some x)
some_at [] i within = absurd (omega arith)
some_at (x ∷ xs) zero within = (x, refl)
some_at (x ∷ xs) (suc i) within = some_at xs i (omega arith)

-- a fact on Err, from the fact
pub on_err_from : {T E A : Type 0} (r : Result T E) → A → OnErr r A
on_err_from (Ok x) a = tt
on_err_from (Err e) a = a

-- what follows of a fact on Err
pub on_err_map : {T E A B : Type 0} (r : Result T E) → OnErr r A → (A → B) → OnErr r B
on_err_map (Ok x) a f = tt
on_err_map (Err e) a f = f a

-- an item that is found passes
pub find-passes : {X : Type 0} (p : X → Bool) (xs : List X) (x : X) → find p xs ≡ Some x → p x ≡ true
find-passes p [] x e = absurd (cc)
find-passes {X = X} p (y ∷ xs) x e = by (p y) refl e (find-passes p xs x)
  where
    by : (b : Bool) → p y ≡ b → cond b (Some y) (find p xs) ≡ Some x → (find p xs ≡ Some x → p x ≡ true) → p x ≡ true
    by true is e rest = ap p (sym (some_from e)) ∙ is
    by false is e rest = rest e

-- a fact where there is nothing, from the fact
pub if_none_from : {X A : Type 0} (o : Option X) → A → IfNone o A
if_none_from None a = a
if_none_from (Some x) a = tt

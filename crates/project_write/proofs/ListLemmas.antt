-- Lists of values beside the lists of their parts.
use Rattle.std.proofs.Common.{◌≡◌, ℕ, suc, ◌+◌, ◌<◌, ◌≤◌, List, [], ◌∷◌, ◌++◌, length, map, take, get_or, Bool, true, false, true≢false, ◌||◌, refl, sym, ap, subst, ◌∙◌, arith}
use Rattle.std.proofs.Math.Nat.{max-le}
use Rattle.std.proofs.lemmas.List.{take_more, map-append}
use Rattle.std.specs.List.{AllZip, list_all, list_any}
use Rattle.serde_json.specs.Data.{Data, items_depth}
use Rattle.serde_json.specs.View as view
use Rattle.serde_json.specs.declared.value.Value.{Value}
use Rattle.project_json.specs.Parts.{list_of, items_in, in_items, is_array}
use Rattle.project_json.specs.FormRules.{is_not_whole}
use Rattle.project_write.specs.Parts.{IsWhole, IsArrayOf}

pub list_back : (ds : List Data) → list_of (view.items_of ds) ≡ ds
list_back [] = refl
list_back (d ∷ ds) = ap (λ rest. d ∷ rest) (list_back ds)

pub zip_push : {X : Type 0} (R : X → Data → Type 0) (xs : List X) (ds : List Data) (x : X) (d : Data) → AllZip R xs ds → R x d → AllZip R (xs ++ x ∷ []) (ds ++ d ∷ [])
zip_push R [] [] x d h r = (r, tt)
zip_push R [] (e ∷ ds) x d h r = absurd h
zip_push R (y ∷ xs) [] x d h r = absurd h
zip_push R (y ∷ xs) (e ∷ ds) x d h r = (h.0, zip_push R xs ds x d h.1 r)

pub zip_length : {X : Type 0} (R : X → Data → Type 0) (xs : List X) (ds : List Data) → AllZip R xs ds → length ds ≡ length xs
zip_length R [] [] h = refl
zip_length R [] (e ∷ ds) h = absurd h
zip_length R (y ∷ xs) [] h = absurd h
zip_length R (y ∷ xs) (e ∷ ds) h = ap suc (zip_length R xs ds h.1)

pub zip_map : {X Y : Type 0} (R : X → Data → Type 0) (f : X → Y) (g : Data → Y) → ((x : X) (d : Data) → R x d → g d ≡ f x)
    → (xs : List X) (ds : List Data) → AllZip R xs ds → map g ds ≡ map f xs
zip_map R f g each [] [] h = refl
zip_map R f g each [] (e ∷ ds) h = absurd h
zip_map R f g each (y ∷ xs) [] h = absurd h
zip_map R f g each (y ∷ xs) (e ∷ ds) h = rw (each y e h.0, zip_map R f g each xs ds h.1)

pub zip_all : {X : Type 0} (R : X → Data → Type 0) (test : Data → Bool) → ((x : X) (d : Data) → R x d → test d ≡ true)
    → (xs : List X) (ds : List Data) → AllZip R xs ds → list_all test ds ≡ true
zip_all R test each [] [] h = refl
zip_all R test each [] (e ∷ ds) h = absurd h
zip_all R test each (y ∷ xs) [] h = absurd h
zip_all R test each (y ∷ xs) (e ∷ ds) h = rw (each y e h.0, zip_all R test each xs ds h.1)

-- ---- no rule is broken in any value

pub or_false : (a b : Bool) → a || b ≡ false → (a ≡ false) × (b ≡ false)
or_false false b h = (refl, h)
or_false true b h = absurd (true≢false h)

none_of_none : {K : Type 0} (rules : List K) → list_any (λ (rule : K). false) rules ≡ false
none_of_none [] = refl
none_of_none (rule ∷ rules) = none_of_none rules

one_more : {K : Type 0} (test : K → Data → Bool) (rules : List K) (d : Data) (ds : List Data) → list_any (λ rule. test rule d) rules ≡ false
    → list_any (λ rule. list_any (test rule) ds) rules ≡ false → list_any (λ rule. list_any (test rule) (d ∷ ds)) rules ≡ false
one_more test [] d ds a b = refl
one_more test (rule ∷ rules) d ds a b =
    let first = or_false (test rule d) (list_any (λ rule. test rule d) rules) a in
    let rest = or_false (list_any (test rule) ds) (list_any (λ rule. list_any (test rule) ds) rules) b in
    rw (first.0, rest.0, one_more test rules d ds first.1 rest.1)

-- a test of each value by each rule
pub zip_none : {X K : Type 0} (R : X → Data → Type 0) (test : K → Data → Bool) (rules : List K)
    → ((x : X) (d : Data) → R x d → list_any (λ rule. test rule d) rules ≡ false)
    → (xs : List X) (ds : List Data) → AllZip R xs ds → list_any (λ rule. list_any (test rule) ds) rules ≡ false
zip_none R test rules each [] [] h = none_of_none rules
zip_none R test rules each [] (e ∷ ds) h = absurd h
zip_none R test rules each (y ∷ xs) [] h = absurd h
zip_none R test rules each (y ∷ xs) (e ∷ ds) h = one_more test rules e ds (each y e h.0) (zip_none R test rules each xs ds h.1)

-- ---- numbers and depths

zip_whole : {X : Type 0} (R : X → Data → Type 0) (n : ℕ) → ((x : X) (d : Data) → R x d → IsWhole n d)
    → (xs : List X) (ds : List Data) → AllZip R xs ds
    → (in_items is_not_whole (view.items_of ds) ≡ false) × (items_depth (view.items_of ds) ≤ n)
zip_whole R n each [] [] h = (refl, omega arith)
zip_whole R n each [] (e ∷ ds) h = absurd h
zip_whole R n each (y ∷ xs) [] h = absurd h
zip_whole R n each (y ∷ xs) (e ∷ ds) h =
    let first = each y e h.0 in
    let rest = zip_whole R n each xs ds h.1 in
    (rw (first.whole, rest.0), max-le first.nests rest.1)

-- ---- arrays

pub array_items : {X : Type 0} (R : X → Data → Type 0) (xs : List X) (d : Data) (a : IsArrayOf R xs d) → items_in d ≡ a.values
array_items R xs d a = ap items_in a.is ∙ list_back a.values

pub array_is : {X : Type 0} (R : X → Data → Type 0) (xs : List X) (d : Data) → IsArrayOf R xs d → is_array d ≡ true
array_is R xs d a = ap is_array a.is

pub array_length : {X : Type 0} (R : X → Data → Type 0) (xs : List X) (d : Data) → IsArrayOf R xs d → length (items_in d) ≡ length xs
array_length R xs d a = ap length (array_items R xs d a) ∙ zip_length R xs a.values a.each

pub array_map : {X Y : Type 0} (R : X → Data → Type 0) (f : X → Y) (g : Data → Y) → ((x : X) (d : Data) → R x d → g d ≡ f x)
    → (xs : List X) (d : Data) → IsArrayOf R xs d → map g (items_in d) ≡ map f xs
array_map R f g each xs d a = ap (map g) (array_items R xs d a) ∙ zip_map R f g each xs a.values a.each

pub array_all : {X : Type 0} (R : X → Data → Type 0) (test : Data → Bool) → ((x : X) (d : Data) → R x d → test d ≡ true)
    → (xs : List X) (d : Data) → IsArrayOf R xs d → list_all test (items_in d) ≡ true
array_all R test each xs d a = ap (list_all test) (array_items R xs d a) ∙ zip_all R test each xs a.values a.each

pub array_none : {X K : Type 0} (R : X → Data → Type 0) (test : K → Data → Bool) (rules : List K)
    → ((x : X) (d : Data) → R x d → list_any (λ rule. test rule d) rules ≡ false)
    → (xs : List X) (d : Data) → IsArrayOf R xs d → list_any (λ rule. list_any (test rule) (items_in d)) rules ≡ false
array_none R test rules each xs d a =
    ap (λ ds. list_any (λ rule. list_any (test rule) ds) rules) (array_items R xs d a) ∙ zip_none R test rules each xs a.values a.each

pub array_whole : {X : Type 0} (R : X → Data → Type 0) (n : ℕ) → ((x : X) (d : Data) → R x d → IsWhole n d)
    → (xs : List X) (d : Data) → IsArrayOf R xs d → IsWhole (suc n) d
array_whole R n each xs d a =
    let inner = zip_whole R n each xs a.values a.each in
    subst (IsWhole (suc n)) (sym a.is) record { whole = inner.0; nests = omega (arith, inner.1) }

-- ---- a turn of a loop that pushes the value of the next part

pub zip_more : {X : Type 0} (R : X → Data → Type 0) (xs : List X) (i : ℕ) (d : X) (olds news : List Value) (v : Value) → i < length xs
    → AllZip R (take i xs) (map view.view olds) → news ≡ olds ++ v ∷ [] → R (get_or xs i d) (view.view v)
    → AllZip R (take (i + 1) xs) (map view.view news)
zip_more R xs i d olds news v less zip pushed r =
    rw (take_more xs i d less, pushed, map-append view.view olds (v ∷ [])) (zip_push R (take i xs) (map view.view olds) (get_or xs i d) (view.view v) zip r)

-- the same, where the part is named
pub zip_next : {X : Type 0} (R : X → Data → Type 0) (xs : List X) (i : ℕ) (x : X) (olds news : List Value) (v : Value) → i < length xs
    → AllZip R (take i xs) (map view.view olds) → news ≡ olds ++ v ∷ [] → x ≡ get_or xs i x → R x (view.view v)
    → AllZip R (take (i + 1) xs) (map view.view news)
zip_next R xs i x olds news v less zip pushed is r =
    zip_more R xs i x olds news v less zip pushed (subst (λ x. R x (view.view v)) is r)

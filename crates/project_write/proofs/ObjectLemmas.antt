-- Objects of values that are whole, and rules that are all kept.
use Rattle.std.proofs.Common.{◌≡◌, ℕ, suc, ◌≤◌, List, [], ◌∷◌, length, Bool, true, false, not, ◌&&◌, ◌||◌, refl, ap, ◌∙◌, arith}
use Rattle.std.proofs.Math.Nat.{max-le}
use Rattle.std.specs.List.{list_any, list_all, AllByRecursion}
use Rattle.serde_json.specs.Data.{Data, array, members_depth, Members, put}
use Rattle.serde_json.specs.View as view
use Rattle.project_model.specs.Bounds.{is_among}
use Rattle.project_json.specs.Parts.{is_object, is_list_of_objects, in_members}
use Rattle.project_json.specs.FormRules.{is_not_whole}
use Rattle.project_write.specs.Parts.{IsWhole, IsArrayOf, object_of, members_of}
use Rattle.project_write.proofs.ListLemmas.{list_back, zip_length, zip_all, or_false}

pub deeper : (m n : ℕ) (d : Data) → m ≤ n → IsWhole m d → IsWhole n d
deeper m n d less w = record { whole = w.whole; nests = let h = w.nests in omega (arith, less, h) }

members_whole : (n : ℕ) (named : List (List ℕ × Data)) → AllByRecursion (λ (m : List ℕ × Data). IsWhole n m.1) named
    → (in_members is_not_whole (members_of named) ≡ false) × (members_depth (members_of named) ≤ n)
members_whole n [] h = (refl, omega arith)
members_whole n (m ∷ named) h =
    let rest = members_whole n named h.1 in
    (rw (h.0.whole, rest.0), max-le h.0.nests rest.1)

pub object_whole : (n : ℕ) (named : List (List ℕ × Data)) → AllByRecursion (λ (m : List ℕ × Data). IsWhole n m.1) named → IsWhole (suc n) (object_of named)
object_whole n named h =
    let inner = members_whole n named h in record { whole = inner.0; nests = let m = inner.1 in omega (arith, m) }

-- ---- tests that accept

pub both_true : (a b : Bool) → a ≡ true → b ≡ true → a && b ≡ true
both_true a b x y = rw (x, y)

pub kept : (test : Bool) (rest : Bool) → test ≡ true → rest ≡ false → not test || rest ≡ false
kept test rest x y = rw (x, y)

-- no rule is broken by either test
pub any_of_two : {K : Type 0} (f g : K → Bool) (rules : List K) → list_any f rules ≡ false → list_any g rules ≡ false
    → list_any (λ rule. f rule || g rule) rules ≡ false
any_of_two f g [] a b = refl
any_of_two f g (rule ∷ rules) a b =
    let x = or_false (f rule) (list_any f rules) a in
    let y = or_false (g rule) (list_any g rules) b in
    rw (x.0, y.0, any_of_two f g rules x.1 y.1)

-- an array of objects of such a count
pub objects_at : (least most : ℕ) (values : List Data) → is_among least most (length values) ≡ true → list_all is_object values ≡ true
    → is_list_of_objects least most (array (view.items_of values)) ≡ true
objects_at least most values count each =
    ap (λ (ds : List Data). is_among least most (length ds) && list_all is_object ds) (list_back values) ∙ rw (count, each)

pub objects_of : {X : Type 0} (R : X → Data → Type 0) (least most : ℕ) (xs : List X) (d : Data) → IsArrayOf R xs d
    → ((x : X) (d : Data) → R x d → is_object d ≡ true) → is_among least most (length xs) ≡ true → is_list_of_objects least most d ≡ true
objects_of R least most xs d a each count =
    ap (is_list_of_objects least most) a.is
    ∙ objects_at least most a.values (ap (is_among least most) (zip_length R xs a.values a.each) ∙ count) (zip_all R is_object each xs a.values a.each)

pub only_is_object : (a b : Bool) → a && b ≡ true → a ≡ true
only_is_object true b h = refl
only_is_object false b h = h

-- ---- members that go in one after another

pub put_next : (name : List ℕ) (d : Data) (rest old new : Members) → new ≡ put name d old → old ≡ rest → new ≡ put name d rest
put_next name d rest old new last before = last ∙ ap (put name d) before

pub put_as : (name : List ℕ) (e d : Data) (rest old new : Members) → new ≡ put name e old → e ≡ d → old ≡ rest → new ≡ put name d rest
put_as name e d rest old new last same before = last ∙ ap (put name e) before ∙ ap (λ d. put name d rest) same

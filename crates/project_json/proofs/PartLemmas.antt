-- The parts of a value, as the code finds them.
use Rattle.std.proofs.Common.{◌≡◌, ℕ, ◌&&◌, ◌||◌, Bool, true, false, is_some, if◌then◌else◌, unwrap_or, pos, suc, Some, List, [], ◌∷◌, length, get_or, map, String, Global, Bor, string_bytes, bytes_eq, refl, sym, ap, ◌∙◌, arith}
use Rattle.std.proofs.lemmas.List.{length-map}
use Rattle.std.proofs.lemmas.List.Folds.{list_all-map}
use Rattle.std.specs.List.{list_any, list_all}
use Rattle.std.specs.Map.{keys_of}
use Rattle.serde_json.specs.View.{view, items_view, members_view}
use Rattle.serde_json.specs.declared.value.Value.{Value}
use Rattle.serde_json.specs.Data.{Data, null, boolean, number, string, array, object, Items, Members}
use Rattle.serde_json.specs.Find.{as_number, as_array, as_object, get}
use Rattle.project_model.specs.Constant.{constant_key}
use Rattle.project_json.specs.Parts.{list_of, member_names, is_one_of, texts_of, has_only, has_each, items_in, whole_in, is_array, is_number, is_object, is_list_of_objects}
use Rattle.rational_time.specs.declared.time.Time.{Time}
use Rattle.project_model.specs.declared.clip.ClipUse.{ClipUse}
use Rattle.project_model.specs.declared.plain.PlainLayer.{PlainLayer}
use Rattle.project_model.specs.declared.plain.PlainComp.{PlainComp}
use Rattle.project_model.specs.declared.plain.PlainProject.{PlainProject}
use Rattle.project_model.specs.Bounds.{is_among, most_keys}
use Rattle.project_json.specs.Reads.{key_in, keys_in}
use Rattle.project_json.specs.Shapes.{is_keyframe, is_stream}

pub list_of-items_view : (vs : List Value) → list_of (items_view vs) ≡ map view vs
list_of-items_view [] = refl
list_of-items_view (v ∷ vs) = ap (λ ds. view v ∷ ds) (list_of-items_view vs)

pub names-members_view : (es : List (String Global × Value)) → member_names (members_view es) ≡ map string_bytes (keys_of es)
names-members_view [] = refl
names-members_view (e ∷ es) = ap (λ ns. string_bytes e.0 ∷ ns) (names-members_view es)

-- a value that is an array, or an object
pub is_array_of : (d : Data) (is : Items) → as_array d ≡ Some is → d ≡ array is
is_array_of null is e = absurd cc
is_array_of (boolean b) is e = absurd cc
is_array_of (number n) is e = absurd cc
is_array_of (string s) is e = absurd cc
is_array_of (array items) is e = cc
is_array_of (object ms) is e = absurd cc

pub is_object_of : (d : Data) (ms : Members) → as_object d ≡ Some ms → d ≡ object ms
is_object_of null ms e = absurd cc
is_object_of (boolean b) ms e = absurd cc
is_object_of (number n) ms e = absurd cc
is_object_of (string s) ms e = absurd cc
is_object_of (array items) ms e = absurd cc
is_object_of (object found) ms e = cc

pub is_list-items_view : (least most : ℕ) (d : Data) (vs : List Value) → as_array d ≡ Some (items_view vs)
    → is_list_of_objects least most d ≡ (is_among least most (length vs) && list_all is_object (map view vs))
is_list-items_view least most d vs e =
    ap (is_list_of_objects least most) (is_array_of d (items_view vs) e)
    ∙ ap (λ ds. is_among least most (length ds) && list_all is_object ds) (list_of-items_view vs)
    ∙ ap (λ n. is_among least most n && list_all is_object (map view vs)) (length-map vs view)

object_test : (d : Data) → is_some (as_object d) ≡ is_object d
object_test null = refl
object_test (boolean b) = refl
object_test (number n) = refl
object_test (string s) = refl
object_test (array items) = refl
object_test (object ms) = refl

pub objects_test : (vs : List Value) → list_all is_object (map view vs) ≡ list_all (λ v. is_some (as_object (view v))) vs
objects_test [] = refl
objects_test (v ∷ vs) = rw (object_test (view v), objects_test vs)

pub is_one_of-texts : (name : List ℕ) (names : List (Bor (List ℕ))) → is_one_of (texts_of names) name ≡ list_any (λ allowed. bytes_eq name allowed.now) names
is_one_of-texts name [] = refl
is_one_of-texts name (x ∷ xs) = ap (λ b. bytes_eq name x.now || b) (is_one_of-texts name xs)

pub each-texts : (d : Data) (names : List (Bor (List ℕ))) → has_each (texts_of names) d ≡ list_all (λ name. is_some (get name.now d)) names
each-texts d [] = refl
each-texts d (x ∷ xs) = ap (λ b. is_some (get x.now d) && b) (each-texts d xs)

pub only-texts : (names : List (Bor (List ℕ))) (es : List (String Global × Value))
    → has_only (texts_of names) (object (members_view es)) ≡ list_all (λ k. list_any (λ allowed. bytes_eq (string_bytes k) allowed.now) names) (keys_of es)
only-texts names [] = refl
only-texts names (e ∷ es) = rw (is_one_of-texts (string_bytes e.0) names, only-texts names es)

pub list_test : (least most : ℕ) (d : Data) (vs : List Value) (a o : Bool) → as_array d ≡ Some (items_view vs) → is_among least most (length vs) ≡ a
    → list_all (λ v. is_some (as_object (view v))) vs ≡ o → is_list_of_objects least most d ≡ (a && o)
list_test least most d vs a o e among objects =
    is_list-items_view least most d vs e ∙ ap (λ b. b && list_all is_object (map view vs)) among ∙ ap (λ b. a && b) (objects_test vs ∙ objects)

pub length-names : (es : List (String Global × Value)) → length (member_names (members_view es)) ≡ length es
length-names [] = refl
length-names (e ∷ es) = ap suc (length-names es)

pub number_test : (d : Data) → is_some (as_number d) ≡ is_number d
number_test null = refl
number_test (boolean b) = refl
number_test (number n) = refl
number_test (string s) = refl
number_test (array items) = refl
number_test (object ms) = refl

pub array_test : (d : Data) → is_some (as_array d) ≡ is_array d
array_test null = refl
array_test (boolean b) = refl
array_test (number n) = refl
array_test (string s) = refl
array_test (array items) = refl
array_test (object ms) = refl

-- a test of all parts, as the code finds them
pub all_viewed : (test : Data → Bool) (vs : List Value) (ds : List Data) → map view vs ≡ ds → list_all (λ v. test (view v)) vs ≡ list_all test ds
all_viewed test vs ds e = sym (list_all-map test view vs) ∙ ap (list_all test) e

pub any_viewed : (test : Data → Bool) (vs : List Value) (ds : List Data) → map view vs ≡ ds → list_any (λ v. test (view v)) vs ≡ list_any test ds
any_viewed test vs ds e = twice vs ∙ ap (list_any test) e
  where
    twice : (vs : List Value) → list_any (λ v. test (view v)) vs ≡ list_any test (map view vs)
    twice [] = refl
    twice (v ∷ vs) = ap (λ b. test (view v) || b) (twice vs)

stream_parts : (d : Data) (ds : List Data) (a : Bool) → ds ≡ items_in d → is_number d ≡ false → is_among 1 most_keys (length ds) ≡ a
    → is_stream d ≡ (a && list_all is_keyframe ds)
stream_parts d ds a e n among =
    ap (λ b. b || (is_among 1 most_keys (length (items_in d)) && list_all is_keyframe (items_in d))) n
    ∙ ap (λ xs. is_among 1 most_keys (length xs) && list_all is_keyframe xs) (sym e) ∙ ap (λ b. b && list_all is_keyframe ds) among

pub stream_test : (d : Data) (vs : List Value) → map view vs ≡ items_in d → is_number d ≡ false → is_among 1 most_keys (length vs) ≡ true
    → is_stream d ≡ list_all (λ v. is_keyframe (view v)) vs
stream_test d vs e n among =
    stream_parts d (map view vs) true e n (ap (is_among 1 most_keys) (length-map vs view) ∙ among) ∙ list_all-map is_keyframe view vs

-- ---- arrays of so many items

pub two_items : (xs : List Value) (a b : Value) → length xs ≡ 2 → a ≡ get_or xs 0 a → b ≡ get_or xs 1 b → xs ≡ a ∷ b ∷ []
two_items [] a b n ea eb = absurd (omega arith)
two_items (x ∷ []) a b n ea eb = absurd (omega arith)
two_items (x ∷ y ∷ []) a b n ea eb = cc
two_items (x ∷ y ∷ z ∷ xs) a b n ea eb = absurd (omega arith)

pub three_items : (xs : List Value) (a b k : Value) → length xs ≡ 3 → a ≡ get_or xs 0 a → b ≡ get_or xs 1 b → k ≡ get_or xs 2 k → xs ≡ a ∷ b ∷ k ∷ []
three_items [] a b k n ea eb ek = absurd (omega arith)
three_items (x ∷ xs) a b k n ea eb ek = let rest : xs ≡ b ∷ k ∷ [] = two_items xs b k (omega arith) eb ek in cc

pub six_items : (xs : List Value) (w h a r g b : Value) → length xs ≡ 6 → w ≡ get_or xs 0 w → h ≡ get_or xs 1 h → a ≡ get_or xs 2 a → r ≡ get_or xs 3 r → g ≡ get_or xs 4 g → b ≡ get_or xs 5 b
    → xs ≡ w ∷ h ∷ a ∷ r ∷ g ∷ b ∷ []
six_items [] w h a r g b n ew eh ea er eg eb = absurd (omega arith)
six_items (x ∷ []) w h a r g b n ew eh ea er eg eb = absurd (omega arith)
six_items (x ∷ y ∷ []) w h a r g b n ew eh ea er eg eb = absurd (omega arith)
six_items (x ∷ y ∷ z ∷ xs) w h a r g b n ew eh ea er eg eb = let rest : xs ≡ r ∷ g ∷ b ∷ [] = three_items xs r g b (omega arith) er eg eb in cc

-- ---- lists of parts

pub mapped : {A : Type 0} (f : Data → A) (vs : List Value) (ds : List Data) → map view vs ≡ ds → map (λ v. f (view v)) vs ≡ map f ds
mapped f vs ds e = twice vs ∙ ap (map f) e
  where
    twice : (vs : List Value) → map (λ v. f (view v)) vs ≡ map f (map view vs)
    twice [] = refl
    twice (v ∷ vs) = ap (λ found. f (view v) ∷ found) (twice vs)

pub keys_test : (d : Data) → is_number d ≡ false → keys_in d ≡ map key_in (items_in d)
keys_test d e = ap (λ b. if b then constant_key (unwrap_or (whole_in d) (pos 0)) ∷ [] else map key_in (items_in d)) e

pub same_project : (depth depth' root root' : ℕ) (clips clips' : List ClipUse) (comps comps' : List PlainComp) → depth ≡ depth' → root ≡ root'
    → clips ≡ clips' → comps ≡ comps'
    → ◌≡◌ {A = PlainProject} (record { depth = depth; root = root; clips = clips; comps = comps })
    (record { depth = depth'; root = root'; clips = clips'; comps = comps' })
same_project depth depth' root root' clips clips' comps comps' d r k e = cc

-- a clip, part by part
pub same_clip : (name name' : List ℕ) (w w' h h' d d' n n' : ℕ) (f f' : Time) → name ≡ name' → w ≡ w' → h ≡ h' → d ≡ d' → f ≡ f' → n ≡ n'
    → ◌≡◌ {A = ClipUse} (record { name = name; width = w; height = h; depth = d; frame = f; frames = n })
    (record { name = name'; width = w'; height = h'; depth = d'; frame = f'; frames = n' })
same_clip name name' w w' h h' d d' n n' f f' a b c e g i = cc

-- a composition, part by part
pub same_comp : (w w' h h' n n' : ℕ) (f f' : Time) (ls ls' : List PlainLayer) → w ≡ w' → h ≡ h' → f ≡ f' → n ≡ n' → ls ≡ ls'
    → (let p : PlainComp = record { width = w; height = h; frame = f; frames = n; layers = ls } in p)
    ≡ record { width = w'; height = h'; frame = f'; frames = n'; layers = ls' }
same_comp w w' h h' n n' f f' ls ls' a b c d e = cc

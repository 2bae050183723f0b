-- One value more is drawn.
use Rattle.std.proofs.Common.{◌≡◌, ℕ, ◌+◌, List, [], ◌∷◌, ◌++◌, length, length-append, map, refl, sym, ◌∙◌, subst, ap, add-one, arith}
use Rattle.std.specs.List.{All}
use Rattle.std.proofs.lemmas.List.{map-append}
use Rattle.std.proofs.lemmas.List.Elements.{All-nil, All-push, All-same}
use Rattle.scene_gen.specs.Draws.{Drawn, several}

-- the list of the first so many, and the state that they leave
pub record AreDrawn {A : Type 0} (all : Drawn (List A)) (list : List A) (state : ℕ) : Type 0 where
  pub list_is : list ≡ all.value
  pub state_is : state ≡ all.state

pub none_drawn : {A : Type 0} (item : ℕ → ℕ → Drawn A) (state : ℕ) (list : List A) → list ≡ [] → AreDrawn (several item 0 state) list state
unfolding several
none_drawn item state list none = record { list_is = none; state_is = refl }

pub more_drawn : {A : Type 0} (item : ℕ → ℕ → Drawn A) (count first state after : ℕ) (done more : List A) (last : A) → AreDrawn (several item count first) done state → last ≡ (item count state).value → after ≡ (item count state).state → more ≡ done ++ last ∷ [] → AreDrawn (several item (count + 1) first) more after
unfolding several
more_drawn item count first state after done more last drawn value_is state_is grown =
    rw add-one (record {
      list_is =
          grown
          ∙ ap (λ (xs : _). xs ++ last ∷ []) drawn.list_is
          ∙ ap (λ (x : _). (several item count first).value ++ x ∷ []) (value_is ∙ ap (λ (s : ℕ). (item count s).value) drawn.state_is);
      state_is = state_is ∙ ap (λ (s : ℕ). (item count s).state) drawn.state_is;
    })

-- the same of what values say in plain parts
pub none_said : {A B : Type 0} (f : A → B) (item : ℕ → ℕ → Drawn B) (first state : ℕ) (items : List A) → items ≡ [] → state ≡ first → AreDrawn (several item 0 first) (map f items) state
none_said f item first state items none same =
    subst (AreDrawn (several item 0 first) (map f items)) (sym same) (none_drawn item first (map f items) (ap (map f) none))

pub more_said : {A B : Type 0} (f : A → B) (item : ℕ → ℕ → Drawn B) (count first state after : ℕ) (items more : List A) (last : A) → AreDrawn (several item count first) (map f items) state → f last ≡ (item count state).value → after ≡ (item count state).state → more ≡ items ++ last ∷ [] → AreDrawn (several item (count + 1) first) (map f more) after
more_said f item count first state after items more last drawn value_is state_is grown =
    more_drawn item count first state after (map f items) (map f more) (f last) drawn value_is state_is
    (ap (map f) grown ∙ map-append f items (last ∷ []))

-- a fact of each, and how many they are
pub none_all : {A : Type 0} (P : A → Type 0) (items : List A) → items ≡ [] → All P items × (length items ≡ 0)
none_all {A} P items none = (All-same P items [] none (All-nil P), ap (length {A = A}) none)

pub more_all : {A : Type 0} (P : A → Type 0) (items more : List A) (last : A) (count : ℕ) → All P items × (length items ≡ count) → P last → more ≡ items ++ last ∷ [] → All P more × (length more ≡ count + 1)
more_all {A} P items more last count all here grown =
    let long = ap (length {A = A}) grown ∙ length-append items (last ∷ []) in
    (All-same P more (items ++ last ∷ []) grown (All-push P items last all.0 here), omega (arith, long, all.1))

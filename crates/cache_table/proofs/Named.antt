-- Rows found by their class and key.
use Rattle.std.proofs.Common.{◌≡◌, ℕ, zero, suc, Bool, true, false, cond, ◌&&◌, List, [], ◌∷◌, ◌++◌, set, refl, sym, ap, ap₂, ◌∙◌, subst, nat_eq, eqb-true, eq-eqb}
use Rattle.std.specs.Prelude.{Option, Some, None, find, map, option_map, position, remove, slice_get}
use Rattle.std.specs.Option.{option_map_or}
use Rattle.std.specs.Map.{lookup}
use Rattle.std.proofs.lemmas.Bool.{and_parts}
use Rattle.cache_core.proofs.Firsts.{place_from_position, none_from_position}
use Rattle.cache_core.proofs.Names.{nat_eq-sym}
use Rattle.cache_table.specs.Kept.{Kept, is_kept, changed_at}
use Rattle.cache_table.specs.Slots.{changed_item, last_item, on_kept, plain_rows, name_in, named, is_name, AreNamedOnce, IsIndexed}
use Rattle.cache_table.specs.declared.chain.Name.{Name}
use Rattle.cache_table.proofs.Slotted.{some_from, slice_get-map, set-map, remove-map, map-append, position-map, some_at, find-passes}
use Rattle.cache_table.proofs.Chained.{set-at}

name_same : (a b : Name) → is_name a b ≡ true → a ≡ b
name_same a b e =
    let parts = and_parts (nat_eq a.class b.class) (nat_eq a.key b.key) e in
    ap₂ (λ (c k : ℕ). let name : Name = record { class = c; key = k } in name) (eqb-true a.class b.class parts.0) (eqb-true a.key b.key parts.1)

name_own : (a : Name) → is_name a a ≡ true
name_own a = ap₂ (λ p q. p && q) (eq-eqb a.class a.class refl) (eq-eqb a.key a.key refl)

is_name-sym : (a b : Name) → is_name a b ≡ is_name b a
is_name-sym a b = ap₂ (λ p q. p && q) (nat_eq-sym a.class b.class) (nat_eq-sym a.key b.key)

module _ (test : Name → Bool) where
  lookup-other : (es : List (Name × ℕ)) (e : Name × ℕ) → test e.0 ≡ false → lookup test (es ++ e ∷ []) ≡ lookup test es
  lookup-other [] e miss = ap (λ b. cond b (Some e.1) None) miss
  lookup-other (x ∷ es) e miss = ap (cond (test x.0) (Some x.1)) (lookup-other es e miss)

  lookup-last : (es : List (Name × ℕ)) (e : Name × ℕ) → lookup test es ≡ None → test e.0 ≡ true → lookup test (es ++ e ∷ []) ≡ Some e.1
  lookup-last [] e none hit = ap (λ b. cond b (Some e.1) None) hit
  lookup-last (x ∷ es) e none hit = by (test x.0) none (λ n. lookup-last es e n hit)
    where
      by : (b : Bool) → cond b (Some x.1) (lookup test es) ≡ None → (lookup test es ≡ None → lookup test (es ++ e ∷ []) ≡ Some e.1) → cond b (Some x.1) (lookup test (es ++ e ∷ [])) ≡ Some e.1
      by true n rest = absurd (cc)
      by false n rest = rest n

  none_parts : (x : Name × ℕ) (es : List (Name × ℕ)) → lookup test (x ∷ es) ≡ None → (test x.0 ≡ false) × (lookup test es ≡ None)
  none_parts x es none = by (test x.0) none
    where
      by : (b : Bool) → cond b (Some x.1) (lookup test es) ≡ None → (b ≡ false) × (lookup test es ≡ None)
      by true n = absurd (cc)
      by false n = (refl, n)

  none_at : (es : List (Name × ℕ)) (i : ℕ) (e : Name × ℕ) → lookup test es ≡ None → slice_get es i ≡ Some e → test e.0 ≡ false
  none_at [] i e none at = absurd (cc)
  none_at (x ∷ es) zero e none at = ap (λ (y : Name × ℕ). test y.0) (sym (some_from at)) ∙ (none_parts x es none).0
  none_at (x ∷ es) (suc i) e none at = none_at es i e (none_parts x es none).1 at

  none_removed : (es : List (Name × ℕ)) (i : ℕ) → lookup test es ≡ None → lookup test (remove es i) ≡ None
  none_removed [] zero none = refl
  none_removed [] (suc i) none = refl
  none_removed (x ∷ es) zero none = (none_parts x es none).1
  none_removed (x ∷ es) (suc i) none =
      let parts = none_parts x es none in
      ap (λ b. cond b (Some x.1) (lookup test (remove es i))) parts.0 ∙ none_removed es i parts.1

  removed_other : (es : List (Name × ℕ)) (i : ℕ) (e : Name × ℕ) → slice_get es i ≡ Some e → test e.0 ≡ false → lookup test (remove es i) ≡ lookup test es
  removed_other [] i e at miss = absurd (cc)
  removed_other (x ∷ es) zero e at miss = sym (ap (λ b. cond b (Some x.1) (lookup test es)) (ap (λ (y : Name × ℕ). test y.0) (some_from at) ∙ miss))
  removed_other (x ∷ es) (suc i) e at miss = ap (cond (test x.0) (Some x.1)) (removed_other es i e at miss)

removed_own : (es : List (Name × ℕ)) (i : ℕ) (e : Name × ℕ) → AreNamedOnce es → slice_get es i ≡ Some e → lookup (is_name e.0) (remove es i) ≡ None
removed_own [] i e once at = absurd (cc)
removed_own (x ∷ es) zero e once at = subst (λ (y : Name × ℕ). lookup (is_name y.0) es ≡ None) (some_from at) once.0
removed_own (x ∷ es) (suc i) e once at =
    ap (λ b. cond b (Some x.1) (lookup (is_name e.0) (remove es i))) (is_name-sym e.0 x.0 ∙ none_at (is_name x.0) es i e once.0 at)
    ∙ removed_own es i e once.1 at

lookup_at : (es : List (Name × ℕ)) (i : ℕ) (e : Name × ℕ) → AreNamedOnce es → slice_get es i ≡ Some e → lookup (is_name e.0) es ≡ Some e.1
lookup_at [] i e once at = absurd (cc)
lookup_at (x ∷ es) zero e once at = subst (λ (y : Name × ℕ). cond (is_name y.0 x.0) (Some x.1) (lookup (is_name y.0) es) ≡ Some y.1) (some_from at) (ap (λ b. cond b (Some x.1) (lookup (is_name x.0) es)) (name_own x.0))
lookup_at (x ∷ es) (suc i) e once at =
    ap (λ b. cond b (Some x.1) (lookup (is_name e.0) es)) (is_name-sym e.0 x.0 ∙ none_at (is_name x.0) es i e once.0 at) ∙ lookup_at es i e once.1 at

once_removed : (es : List (Name × ℕ)) (i : ℕ) → AreNamedOnce es → AreNamedOnce (remove es i)
once_removed [] zero once = tt
once_removed [] (suc i) once = tt
once_removed (x ∷ es) zero once = once.1
once_removed (x ∷ es) (suc i) once = (none_removed (is_name x.0) es i once.0, once_removed es i once.1)

once_pushed : (es : List (Name × ℕ)) (e : Name × ℕ) → AreNamedOnce es → lookup (is_name e.0) es ≡ None → AreNamedOnce (es ++ e ∷ [])
once_pushed [] e once none = (refl, tt)
once_pushed (x ∷ es) e once none =
    let parts = none_parts (is_name e.0) x es none in
    (lookup-other (is_name x.0) es e (is_name-sym x.0 e.0 ∙ parts.0) ∙ once.0, once_pushed es e once.1 parts.1)

-- a row that goes last is found where it was
pub indexed-touched : (entries es : List (Name × ℕ)) (i : ℕ) (e : Name × ℕ) → IsIndexed entries es → slice_get es i ≡ Some e → IsIndexed entries (last_item i es)
indexed-touched entries es i e indexed at =
    let moved : last_item i es ≡ remove es i ++ e ∷ [] = ap (λ o. option_map_or (λ x. remove es i ++ x ∷ []) o es) at in
    let own = removed_own es i e indexed.once at in
    subst (IsIndexed entries) (sym moved) (record {
      finds = λ name. indexed.finds name ∙ sym (by name (is_name name e.0) refl own);
      once = once_pushed (remove es i) e (once_removed es i indexed.once) own;
    })
  where
    by : (name : Name) (b : Bool) → is_name name e.0 ≡ b → lookup (is_name e.0) (remove es i) ≡ None → lookup (is_name name) (remove es i ++ e ∷ []) ≡ lookup (is_name name) es
    by name true same own =
        subst (λ n. lookup (is_name n) (remove es i ++ e ∷ []) ≡ lookup (is_name n) es) (sym (name_same name e.0 same))
        (lookup-last (is_name e.0) (remove es i) e own (name_own e.0) ∙ sym (lookup_at es i e indexed.once at))
    by name false differs own = lookup-other (is_name name) (remove es i) e differs ∙ removed_other (is_name name) es i e at differs

-- a row that goes is not found
pub indexed-removed : (entries entries' es : List (Name × ℕ)) (i : ℕ) (e : Name × ℕ) → IsIndexed entries es → slice_get es i ≡ Some e
    → ((name : Name) → lookup (is_name name) entries' ≡ cond (is_name e.0 name) None (lookup (is_name name) entries)) → IsIndexed entries' (remove es i)
indexed-removed entries entries' es i e indexed at updates = record {
  finds = λ name. updates name ∙ by name (is_name e.0 name) refl;
  once = once_removed es i indexed.once;
}
  where
    by : (name : Name) (b : Bool) → is_name e.0 name ≡ b → cond b None (lookup (is_name name) entries) ≡ lookup (is_name name) (remove es i)
    by name true same = sym (subst (λ n. lookup (is_name n) (remove es i) ≡ None) (name_same e.0 name same) (removed_own es i e indexed.once at))
    by name false differs = indexed.finds name ∙ sym (removed_other (is_name name) es i e at (is_name-sym name e.0 ∙ differs))

-- a row more is found
pub indexed-pushed : (entries entries' es : List (Name × ℕ)) (e : Name × ℕ) → IsIndexed entries es → lookup (is_name e.0) es ≡ None
    → ((name : Name) → lookup (is_name name) entries' ≡ cond (is_name e.0 name) (Some e.1) (lookup (is_name name) entries)) → IsIndexed entries' (es ++ e ∷ [])
indexed-pushed entries entries' es e indexed none updates = record {
  finds = λ name. updates name ∙ by name (is_name e.0 name) refl;
  once = once_pushed es e indexed.once none;
}
  where
    by : (name : Name) (b : Bool) → is_name e.0 name ≡ b → cond b (Some e.1) (lookup (is_name name) entries) ≡ lookup (is_name name) (es ++ e ∷ [])
    by name true same = sym (subst (λ n. lookup (is_name n) (es ++ e ∷ []) ≡ Some e.1) (name_same e.0 name same) (lookup-last (is_name e.0) es e none (name_own e.0)))
    by name false differs = indexed.finds name ∙ sym (lookup-other (is_name name) es e (is_name-sym name e.0 ∙ differs))

pub indexed-same : (entries es es' : List (Name × ℕ)) → es' ≡ es → IsIndexed entries es → IsIndexed entries es'
indexed-same entries es es' same indexed = subst (IsIndexed entries) (sym same) indexed

-- items that are mapped, one of which goes last or is changed
pub map-last : {X Y : Type 0} (f : X → Y) (xs : List X) (i : ℕ) → map f (last_item i xs) ≡ last_item i (map f xs)
map-last {X = X} f xs i = by (slice_get xs i) refl
  where
    by : (o : Option X) → slice_get xs i ≡ o → map f (last_item i xs) ≡ last_item i (map f xs)
    by None e =
        ap (λ o. map f (option_map_or (λ x. remove xs i ++ x ∷ []) o xs)) e
        ∙ sym (ap (λ o. option_map_or (λ y. remove (map f xs) i ++ y ∷ []) o (map f xs)) (slice_get-map f xs i ∙ ap (option_map f) e))
    by (Some x) e =
        ap (λ o. map f (option_map_or (λ x. remove xs i ++ x ∷ []) o xs)) e
        ∙ map-append f (remove xs i) (x ∷ []) ∙ ap (λ l. l ++ f x ∷ []) (sym (remove-map f xs i))
        ∙ sym (ap (λ o. option_map_or (λ y. remove (map f xs) i ++ y ∷ []) o (map f xs)) (slice_get-map f xs i ∙ ap (option_map f) e))

module _ {V : Type 0} where
  pub plain-changed : (change : Kept V → Kept V) (rows : List (ℕ × Kept V)) (i : ℕ) → plain_rows (changed_item (on_kept change) i rows) ≡ changed_at change i (plain_rows rows)
  plain-changed change rows i = by (slice_get rows i) refl
    where
      f : ℕ × Kept V → Kept V
      f row = row.1

      by : (o : Option (ℕ × Kept V)) → slice_get rows i ≡ o → plain_rows (changed_item (on_kept change) i rows) ≡ changed_at change i (plain_rows rows)
      by None e =
          ap (λ o. plain_rows (option_map_or (λ r. set rows i (on_kept change r)) o rows)) e
          ∙ sym (ap (λ o. option_map_or (λ k. set (plain_rows rows) i (change k)) o (plain_rows rows)) (slice_get-map (λ (row : ℕ × Kept V). row.1) rows i ∙ ap (option_map (λ (row : ℕ × Kept V). row.1)) e))
      by (Some r) e =
          ap (λ o. plain_rows (option_map_or (λ r. set rows i (on_kept change r)) o rows)) e
          ∙ sym (set-map (λ (row : ℕ × Kept V). row.1) rows i (on_kept change r))
          ∙ sym (ap (λ o. option_map_or (λ k. set (plain_rows rows) i (change k)) o (plain_rows rows)) (slice_get-map (λ (row : ℕ × Kept V). row.1) rows i ∙ ap (option_map (λ (row : ℕ × Kept V). row.1)) e))

  -- a change that leaves class and key leaves the names
  pub named-changed : (change : Kept V → Kept V) (rows : List (ℕ × Kept V)) (i : ℕ) → ((k : Kept V) → (change k).row.class ≡ k.row.class) → ((k : Kept V) → (change k).row.key ≡ k.row.key)
      → named (changed_item (on_kept change) i rows) ≡ named rows
  named-changed change rows i class key = by (slice_get rows i) refl
    where
      by : (o : Option (ℕ × Kept V)) → slice_get rows i ≡ o → named (changed_item (on_kept change) i rows) ≡ named rows
      by None e = ap (λ o. named (option_map_or (λ r. set rows i (on_kept change r)) o rows)) e
      by (Some r) e =
          ap (λ o. named (option_map_or (λ r. set rows i (on_kept change r)) o rows)) e
          ∙ sym (set-map name_in rows i (on_kept change r))
          ∙ ap₂ (λ (c k : ℕ). let name : Name = record { class = c; key = k } in set (map name_in rows) i (name, r.0)) (class r.1) (key r.1)
          ∙ set-at name_in rows i r e

  -- what is found of a class and key
  lookup-find : (class key : ℕ) (rows : List (ℕ × Kept V)) → lookup (is_name (record { class = class; key = key })) (named rows) ≡ option_map (λ row. row.0) (find (λ row. is_kept class key row.1) rows)
  lookup-find class key [] = refl
  lookup-find class key (x ∷ rows) =
      ap₂ (λ b o. cond b (Some x.0) o) (ap₂ (λ a b. a && b) (nat_eq-sym class x.1.row.class) (nat_eq-sym key x.1.row.key)) (lookup-find class key rows)
      ∙ by (is_kept class key x.1)
    where
      by : (b : Bool) → cond b (Some x.0) (option_map (λ row. row.0) (find (λ row. is_kept class key row.1) rows)) ≡ option_map (λ row. row.0) (cond b (Some x) (find (λ row. is_kept class key row.1) rows))
      by true = refl
      by false = refl

  -- the row at the place of a class and key, with its slot
  pub record IsFoundAt (class key place : ℕ) (rows : List (ℕ × Kept V)) : Type 0 where
    pub slot : ℕ
    pub kept : Kept V
    pub at : slice_get rows place ≡ Some (slot, kept)
    pub found : lookup (is_name (record { class = class; key = key })) (named rows) ≡ Some slot
    pub class_is : kept.row.class ≡ class
    pub key_is : kept.row.key ≡ key

  pub found_at : (class key place : ℕ) (rows : List (ℕ × Kept V)) → position (is_kept class key) (plain_rows rows) ≡ Some place → IsFoundAt class key place rows
  found_at class key place rows e =
      let f = λ (row : ℕ × Kept V). row.1 in
      let there : position (λ (row : ℕ × Kept V). is_kept class key row.1) rows ≡ Some place = sym (position-map f (is_kept class key) (λ row. is_kept class key row.1) (λ row. refl) rows) ∙ e in
      let at = place_from_position (λ (row : ℕ × Kept V). is_kept class key row.1) rows place there in
      let item = some_at rows place at.within in
      let passes = find-passes (λ (row : ℕ × Kept V). is_kept class key row.1) rows item.0 (at.found ∙ item.1) in
      let parts = and_parts (nat_eq item.0.1.row.class class) (nat_eq item.0.1.row.key key) passes in
      record {
        slot = item.0.0;
        kept = item.0.1;
        at = item.1;
        found = lookup-find class key rows ∙ ap (option_map (λ row. row.0)) (at.found ∙ item.1);
        class_is = eqb-true item.0.1.row.class class parts.0;
        key_is = eqb-true item.0.1.row.key key parts.1;
      }

  pub not_found : (class key : ℕ) (rows : List (ℕ × Kept V)) → position (is_kept class key) (plain_rows rows) ≡ None → lookup (is_name (record { class = class; key = key })) (named rows) ≡ None
  not_found class key rows e =
      let f = λ (row : ℕ × Kept V). row.1 in
      let there : position (λ (row : ℕ × Kept V). is_kept class key row.1) rows ≡ None = sym (position-map f (is_kept class key) (λ row. is_kept class key row.1) (λ row. refl) rows) ∙ e in
      lookup-find class key rows ∙ ap (option_map (λ row. row.0)) (none_from_position (λ (row : ℕ × Kept V). is_kept class key row.1) rows there).0

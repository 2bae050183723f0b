-- A row that is changed and goes last, by its place.
use Rattle.std.proofs.Common.{◌≡◌, ℕ, true, List, [], ◌∷◌, ◌++◌, get_or, set, sym, ap, ap₂, ◌∙◌, nat_eq, arith, eqb-true, suc}
use Rattle.std.specs.Prelude.{Some, None, position, find, remove, option_map}
use Rattle.std.specs.Option.{option_map_or}
use Rattle.std.proofs.lemmas.Bool.{and_parts}
use Rattle.std.proofs.lemmas.List.{get_or-set_same, take-set, drop-set-lt}
use Rattle.std.proofs.lemmas.List.Quantifiers.{position-Some}
use Rattle.std.proofs.lemmas.Option.{slice_get-get_or}
use Rattle.cache_core.specs.Rows.{is_named, without, row_in, touched}
use Rattle.cache_core.specs.declared.row.Row.{Row}
use Rattle.cache_core.specs.declared.row.State.{State}
use Rattle.cache_core.proofs.Firsts.{place_from_position, none_from_position}

-- a write at a place that is then taken out is not seen
pub remove-set : {X : Type 0} (xs : List X) (i : ℕ) (y : X) → remove (set xs i y) i ≡ remove xs i
remove-set xs i y = ap₂ (λ a b. a ++ b) (take-set xs i y) (drop-set-lt (suc i) xs i y (omega arith))

-- a row of the class and key is `row_in` of them
named_row : (class key : ℕ) (row : Row) (state : State) → is_named class key row ≡ true → row_in row.class row.key state ≡ row_in class key state
named_row class key row state named =
    let parts = and_parts (nat_eq row.class class) (nat_eq row.key key) named in
    ap₂ (λ a b. row_in a b state) (eqb-true row.class class parts.0) (eqb-true row.key key parts.1)

-- where a row of the class and key is found, `touched` changes it and puts it last
touched-found : (class key : ℕ) (change : State → State) (rows : List Row) (row : Row) → find (is_named class key) rows ≡ Some row → touched class key change rows ≡ without class key rows ++ row_in class key (change row.state) ∷ []
touched-found class key change rows row e = ap (λ r. option_map_or (λ state. without class key rows ++ row_in class key (change state) ∷ []) (option_map (λ row. row.state) r) rows) e

-- and where there is none, nothing changes
pub touched-none : (class key : ℕ) (change : State → State) (rows : List Row) → position (is_named class key) rows ≡ None → rows ≡ touched class key change rows
touched-none class key change rows e = sym (ap (λ r. option_map_or (λ state. without class key rows ++ row_in class key (change state) ∷ []) (option_map (λ row. row.state) r) rows) (none_from_position (is_named class key) rows e).0)

-- the row at the place of a class and key is written, and moved last
pub touched_from : (class key : ℕ) (change : State → State) (rows new : List Row) (i : ℕ) (row : Row) (state : State) (d : Row)
    → position (is_named class key) rows ≡ Some i
    → row ≡ get_or rows i row
    → state ≡ change row.state
    → new ≡ remove (set rows i (row_in row.class row.key state)) i ++ get_or (set rows i (row_in row.class row.key state)) i d ∷ []
    → new ≡ touched class key change rows
touched_from class key change rows new i row state d at read changed written =
    let place = place_from_position (is_named class key) rows i at in
    let named : is_named class key row ≡ true = ap (is_named class key) read ∙ (position-Some (is_named class key) rows i row at).1 in
    let found : find (is_named class key) rows ≡ Some row = place.found ∙ slice_get-get_or rows i row place.within ∙ ap Some (sym read) in
    let left = remove-set rows i (row_in row.class row.key state) ∙ sym place.rest in
    let last = get_or-set_same rows i (row_in row.class row.key state) d place.within ∙ named_row class key row state named ∙ ap (row_in class key) changed in
    written ∙ ap₂ (λ a b. a ++ b ∷ []) left last ∙ sym (touched-found class key change rows row found)

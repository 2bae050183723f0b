-- Ranks, effect by effect and layer by layer.
use Rattle.std.proofs.Common.{◌≡◌, ℕ, zero, suc, ◌+◌, ◌<◌, ◌≤◌, ◌^◌, List, [], ◌∷◌, ◌++◌, length, map, take, drop, sym, ◌∙◌, subst, ap, arith}
use Rattle.std.specs.Prelude.{slice_index_or}
use Rattle.std.specs.List.{fold}
use Rattle.std.proofs.Math.Seq.{drop-cons}
use Rattle.std.proofs.Math.Nat.{le_trans}
use Rattle.std.proofs.lemmas.List.{append_assoc}
use Rattle.std.proofs.lemmas.List.Sums.{fold_more}
use Rattle.project_model.specs.Bounds.{most_effects}
use Rattle.project_model.specs.Nesting.{source_rank, fx_rank, fx_ranks, layer_ranks, RankTable}
use Rattle.project_model.specs.declared.item.Item.{Item}
use Rattle.project_model.specs.declared.plain.PlainFx.{PlainFx}
use Rattle.project_model.specs.declared.plain.PlainLayer.{PlainLayer}
use Rattle.project_model.specs.declared.plain.PlainComp.{PlainComp}
use Rattle.project_model.proofs.Ranked.{last_small}

-- one more is folded
pub folded_more : {A B : Type 0} (step : B → A → B) (start : B) (list : List A) (i : ℕ) (a : A) (before after : B) → before ≡ fold step start (take i list) → i < length list → a ≡ slice_index_or list i a → after ≡ step before a → after ≡ fold step start (take (i + 1) list)
folded_more step start list i a before after is within at made =
    made
    ∙ ap (λ (b : _). step b a) is
    ∙ ap (step (fold step start (take i list))) at
    ∙ sym (fold_more step start list i a within)

take_short : {A : Type 0} (i : ℕ) (list : List A) → length (take i list) ≤ length list
take_short zero list = omega arith
take_short (suc i) [] = omega arith
take_short (suc i) (a ∷ list) = let rest = take_short i list in omega (arith, rest)

-- the rank so far is small
pub small_so_far : (f : ℕ → ℕ) → ((k : ℕ) → f k < 2 ^ 16) → (layers : List PlainLayer) (source : Item) (effects : List PlainFx) (i rank : ℕ) → length effects ≤ most_effects → rank ≡ fold (fx_rank f layers) (source_rank f source) (take i effects) → rank ≤ 2 ^ 17
small_so_far f small layers source effects i rank few is =
    subst (λ (n : ℕ). n ≤ 2 ^ 17) (sym is)
    (last_small f small layers source (take i effects) (le_trans (take_short i effects) few))

-- one more rank is listed
pub listed_more : (f : ℕ → ℕ) (layers : List PlainLayer) (effects : List PlainFx) (i : ℕ) (fx : PlainFx) (rank after : ℕ) (nodes more all : List ℕ) → nodes ++ fx_ranks f layers rank (drop i effects) ≡ all → i < length effects → fx ≡ slice_index_or effects i fx → after ≡ fx_rank f layers rank fx → more ≡ nodes ++ after ∷ [] → more ++ fx_ranks f layers after (drop (i + 1) effects) ≡ all
listed_more f layers effects i fx rank after nodes more all is within at made grown =
    let next : i + 1 ≡ suc i = omega arith in
    ap (λ (ns : List ℕ). ns ++ fx_ranks f layers after (drop (i + 1) effects)) grown
    ∙ append_assoc nodes (after ∷ []) (fx_ranks f layers after (drop (i + 1) effects))
    ∙ ap (λ (n : ℕ). nodes ++ n ∷ fx_ranks f layers n (drop (i + 1) effects)) made
    ∙ ap (λ (n : ℕ). nodes ++ fx_ranks f layers rank (fx ∷ drop n effects)) next
    ∙ ap (λ (x : PlainFx). nodes ++ fx_ranks f layers rank (x ∷ drop (suc i) effects)) at
    ∙ ap (λ (xs : List PlainFx). nodes ++ fx_ranks f layers rank xs) (sym (drop-cons effects i fx within))
    ∙ is

-- the ranks of all layers' nodes, where these are those of stacks
abbrev pub rows_of : List ℕ → List PlainComp → List (List (List ℕ))
rows_of stacks comps = map (λ comp. map (layer_ranks (λ index. slice_index_or stacks index 1) comp.layers) comp.layers) comps

pub same_table : (stacks others : List ℕ) (nodes rows : List (List (List ℕ))) → stacks ≡ others → nodes ≡ rows → ◌≡◌ {A = RankTable} (record { stacks = stacks; nodes = nodes }) (record { stacks = others; nodes = rows })
same_table stacks others nodes rows e f =
    ap (λ (xs : List ℕ). record { stacks = xs; nodes = nodes }) e ∙ ap (λ (xs : List (List (List ℕ))). record { stacks = others; nodes = xs }) f

-- What effects want, and what they then draw.
use Rattle.std.proofs.Common.{◌≡◌, ◌≢◌, ◌≤◌, ◌⊎◌, inl, inr, ℕ, zero, suc, ◌<◌, ℤ, List, [], ◌∷◌, ◌++◌, length, map, take, refl, sym, ap, subst, ◌∙◌, arith}
use Rattle.std.specs.Prelude.{slice_get, slice_index_or, Some, option_map, Result, Ok, Err, IfOk}
use Rattle.std.specs.List.{All, AllZip}
use Rattle.std.proofs.lemmas.List.{length-map}
use Rattle.std.proofs.lemmas.List.Elements.{All-nil, All-cons, All-head, All-tail}
use Rattle.std.proofs.lemmas.Option.{slice_get-get_or, slice_get-map, slice_get_within}
use Rattle.geom_rect.specs.declared.rect.Rect.{Rect}
use Rattle.argb_pixel.specs.Depth.{IsDepth}
use Rattle.argb_world.specs.Picture.{Picture}
use Rattle.comp_stack.specs.Stack.{Plane}
use Rattle.comp_stack.specs.Layers.{plane_of}
use Rattle.project_model.specs.Bounds.{most_of}
use Rattle.project_model.specs.Effects.{Use, use_of}
use Rattle.project_model.specs.Plain.{plain_comp, plain_layer, plain_of}
use Rattle.project_model.specs.declared.comp.Comp.{Comp}
use Rattle.project_model.specs.declared.effect.FxUse.{FxUse}
use Rattle.project_model.specs.declared.layer.Layer.{Layer}
use Rattle.effect_api.specs.declared.moment.Moment.{Moment}
use Rattle.effect_api.specs.declared.moment.Want.{Want}
use Rattle.effect_api.specs.declared.moment.Ask.{Ask}
use Rattle.effect_api.specs.declared.pre_render.Checkout.{Checkout}
use Rattle.effect_api.specs.declared.checkouts.Value.{Value}
use Rattle.compute_cache.specs.Suite.{ReceiptOf}
use Rattle.rational_time.specs.declared.time.Tick.{Tick}
use Rattle.effect_api.specs.Checked.{Pixels, AreChecked, AreSums, IsNew, IsShared, IsSumsValue, planes_of, sums_in, world_of}
use Rattle.effect_api.specs.Effects.{IsDrawing, IsInput, Shows}
use Rattle.effect_api.specs.Planes.{AgreeOnNeed, HasSides, IsPlane, extents_of}
use Rattle.effect_api.specs.Fits.{IsGiven, IsHeld}
use Rattle.effect_api.specs.Render.{AreCheckouts}
use Rattle.effect_api.specs.Sets.{EffectSet, Drawing, IsLawfulDrawing, IsLawfulSet}
use Rattle.effect_api.specs.Wants.{IsAsk, IsWant}
use Rattle.smart_plan.specs.Plan.{IsPart}
use Rattle.smart_plan.specs.Requests.{AreRequests, request_at}
use Rattle.smart_plan.specs.Suffices.{Suffices, WorldsStandForPlanes, RequestsAreShown}
use Rattle.scene_meaning.specs.Drawn.{drawn_plane, input_plane}
use Rattle.scene_meaning.specs.Extents.{IsWantedExtent}
use Rattle.scene_meaning.specs.Parts.{IsLayerIn, drawn_from, wanted_by}
use Rattle.scene_meaning.specs.Planes.{IsBoxedPlane, PlanesAreBoxed}
use Rattle.scene_meaning.proofs.Boxes.{boxed_area}
use Rattle.geom_rect.specs.Rect.{area_of}
use Rattle.argb_world.specs.Picture.{greatest_part}
use Rattle.scene_meaning.specs.Scene.{SceneParts, plain_scene}
use Rattle.scene_meaning.specs.Shown.{Sources, base_in, named_plane, plane_behind}
use Rattle.scene_meaning.proofs.Extents.{zip_push, wanted_same}
use Rattle.scene_meaning.proofs.Inside.{found_holds, there_is}
use Rattle.scene_meaning.proofs.Uses.{named_wanted}
use Rattle.frame_draw.proofs.CheckedOut.{planes_count}
use Rattle.frame_draw.specs.Areas.{StandsFor}
use Rattle.frame_draw.specs.Uses.{AreWanted, IsAnswer, IsDrawnPart, IsWanted}

-- ---- what is checked out

append_get : {A : Type 0} (xs : List A) (x y : A) (i : ℕ) → slice_get (xs ++ x ∷ []) i ≡ Some y → (slice_get xs i ≡ Some y) ⊎ ((i ≡ length xs) × (x ≡ y))
append_get [] x y zero e = inr (refl, cc)
append_get [] x y (suc i) e = let wrong : ⊥ = cc in absurd wrong
append_get (z ∷ zs) x y zero e = inl e
append_get (z ∷ zs) x y (suc i) e =
    elim (append_get zs x y i e) [
      | inl there ↦ inl there
      | inr (last, is) ↦ inr (ap suc last, is)
    ]

pub length_push : {A : Type 0} (xs : List A) (x : A) → length (xs ++ x ∷ []) ≡ suc (length xs)
length_push [] x = refl
length_push (y ∷ ys) x = ap suc (length_push ys x)

module _ {most : ℕ} {K : Type 0} (wanted : Want → Plane) (tick : Tick) where
  abbrev Wants : Checkout → ℕ × Pixels most K → Type 0
  Wants checkout pair = IsWanted wanted tick checkout pair.1

  -- nothing was checked out yet
  pub wanted_none : (pairs : List (ℕ × Pixels most K)) → pairs ≡ [] → AreWanted wanted tick [] pairs
  wanted_none pairs none =
      subst (λ ps. AreWanted wanted tick [] ps) (sym none)
      (record { numbers = λ i pair e. let wrong : ⊥ = cc in absurd wrong; each = tt })

  -- one plane more
  pub wanted_more : (checkouts : List Checkout) (checkout : Checkout) (old new : List (ℕ × Pixels most K)) (place : ℕ) (pixels : Pixels most K)
      → AreWanted wanted tick (take place checkouts) old → length old ≡ place → slice_get checkouts place ≡ Some checkout → new ≡ old ++ (place, pixels) ∷ []
      → IsWanted wanted tick checkout pixels → AreWanted wanted tick (take (suc place) checkouts) new
  wanted_more checkouts checkout old new place pixels are last here pushed is =
      subst (λ ps. AreWanted wanted tick (take (suc place) checkouts) ps) (sym pushed)
      (record {
        numbers = λ i pair e.
            elim (append_get old (place, pixels) pair i e) [
              | inl there ↦ are.numbers i pair there
              | inr (at, same) ↦ ap (λ (p : ℕ × Pixels most K). p.0) (sym same) ∙ sym last ∙ sym at
            ];
        each =
            zip_push Wants checkouts old place (place, pixels) are.each (slice_get_within checkouts place checkout here)
            (λ x found. let same : checkout ≡ x = cc in subst (λ (c : Checkout). Wants c (place, pixels)) same is);
      })

  -- no pair has the next number yet
  pub new_number : (checkouts : List Checkout) (pairs : List (ℕ × Pixels most K)) (id : ℕ) → AreWanted wanted tick checkouts pairs → id ≡ length pairs → IsNew id pairs
  new_number checkouts pairs id are last = λ k d within same.
      let number : (slice_index_or pairs k d).0 ≡ k = are.numbers k _ (slice_get-get_or pairs k d within) in
      absurd (omega (arith, within, last, number, same))

  pub stand_count : (checkouts : List Checkout) (pairs : List (ℕ × Pixels most K)) → AllZip Wants checkouts pairs → length pairs ≡ length checkouts
  stand_count [] [] zip = refl
  stand_count [] (p ∷ ps) zip = absurd zip
  stand_count (c ∷ cs) [] zip = absurd zip
  stand_count (c ∷ cs) (p ∷ ps) zip = ap suc (stand_count cs ps zip.1)

  -- they have the extents of what is wanted
  pub stand_extents : (checkouts : List Checkout) (pairs : List (ℕ × Pixels most K)) → AllZip Wants checkouts pairs → extents_of (planes_of pairs) ≡ extents_of (map wanted (map (λ c. c.want) checkouts))
  stand_extents [] [] zip = refl
  stand_extents [] (p ∷ ps) zip = absurd zip
  stand_extents (c ∷ cs) [] zip = absurd zip
  stand_extents (c ∷ cs) (p ∷ ps) zip =
      ap (λ (r : Rect). r ∷ extents_of (planes_of ps)) zip.0.stands.extent ∙ ap (λ rs. (wanted c.want).extent ∷ rs) (stand_extents cs ps zip.1)

  -- and agree with it on what is requested
  pub stand_agree : (checkouts : List Checkout) (pairs : List (ℕ × Pixels most K)) → AllZip Wants checkouts pairs → AgreeOnNeed (request_at checkouts) (map wanted (map (λ c. c.want) checkouts)) (planes_of pairs)
  stand_agree [] [] zip i within = absurd (omega (arith, within))
  stand_agree [] (p ∷ ps) zip i within = absurd zip
  stand_agree (c ∷ cs) [] zip i within = absurd zip
  stand_agree (c ∷ cs) (p ∷ ps) zip zero within = λ x y has. sym (zip.0.stands.agrees x y has)
  stand_agree (c ∷ cs) (p ∷ ps) zip (suc i) within = stand_agree cs ps zip.1 i (omega (arith, within))

  -- they are planes
  pub stand_planes : (checkouts : List Checkout) (pairs : List (ℕ × Pixels most K)) → AllZip Wants checkouts pairs → All (IsPlane most) (planes_of pairs)
  stand_planes [] [] zip = All-nil (IsPlane most)
  stand_planes [] (p ∷ ps) zip = absurd zip
  stand_planes (c ∷ cs) [] zip = absurd zip
  stand_planes (c ∷ cs) (p ∷ ps) zip = All-cons (IsPlane most) (plane_of (world_of p.1)) (planes_of ps) zip.0.plane (stand_planes cs ps zip.1)

  -- and shared where they are of another tick
  pub stand_shared : (checkouts : List Checkout) (pairs : List (ℕ × Pixels most K)) (i : ℕ) (want : Want) (pair : ℕ × Pixels most K) → AllZip Wants checkouts pairs
      → slice_get (map (λ c. c.want) checkouts) i ≡ Some want → slice_get pairs i ≡ Some pair → want.tick ≢ tick → IsShared pair.1
  stand_shared [] [] i want pair zip found there differs = let wrong : ⊥ = cc in absurd wrong
  stand_shared [] (p ∷ ps) i want pair zip found there differs = absurd zip
  stand_shared (c ∷ cs) [] i want pair zip found there differs = absurd zip
  stand_shared (c ∷ cs) (p ∷ ps) zero want pair zip found there differs =
      let wants : c.want ≡ want = cc in
      let here : p ≡ pair = cc in
      subst (λ (q : ℕ × Pixels most K). IsShared q.1) here (zip.0.shared (λ e. differs (sym (ap (λ (w : Want). w.tick) wants) ∙ e)))
  stand_shared (c ∷ cs) (p ∷ ps) (suc i) want pair zip found there differs = stand_shared cs ps i want pair zip.1 found there differs

-- what the checkouts of a plan want
pub checkout_wants : (wants : List Want) (checkouts : List Checkout) → length checkouts ≡ length wants
    → ((i : ℕ) (want : Want) (checkout : Checkout) → slice_get wants i ≡ Some want → slice_get checkouts i ≡ Some checkout → checkout.want ≡ want) → map (λ c. c.want) checkouts ≡ wants
checkout_wants [] [] long each = refl
checkout_wants [] (c ∷ cs) long each = absurd (omega (arith, long))
checkout_wants (w ∷ ws) [] long each = absurd (omega (arith, long))
checkout_wants (w ∷ ws) (c ∷ cs) long each =
    ap (λ (x : Want). x ∷ map (λ d. d.want) cs) (each 0 w c refl refl)
    ∙ ap (λ xs. w ∷ xs) (checkout_wants ws cs (omega (arith, long)) (λ i want checkout there here. each (suc i) want checkout there here))

pub plan_wants : (wants : List Want) (extents : List Rect) (need : ℕ → Rect) (checkouts : List Checkout) → AreCheckouts wants extents need checkouts → map (λ c. c.want) checkouts ≡ wants
plan_wants wants extents need checkouts are = checkout_wants wants checkouts are.one_each (λ i want checkout there here. (are.each i want checkout there here).want_is)

-- what holds of the extents holds of those of the worlds
pairs_all : {most : ℕ} {K : Type 0} (P : Rect → Type 0) (pairs : List (ℕ × Pixels most K)) → All P (extents_of (planes_of pairs)) → All (λ pair. P (world_of pair.1).extent) pairs
pairs_all P [] all = All-nil _
pairs_all P (pair ∷ pairs) all =
    All-cons (λ p. P (world_of p.1).extent) pair pairs (All-head P (world_of pair.1).extent (extents_of (planes_of pairs)) all) (pairs_all P pairs (All-tail P (world_of pair.1).extent (extents_of (planes_of pairs)) all))

-- it is what the effect may be given
pub are_checked : {most : ℕ} {K : Type 0} (wanted : Want → Plane) (wants : List Want) (at : Moment) (extents : List Rect) (checkouts : List Checkout) (pairs : List (ℕ × Pixels most K))
    → map (λ c. c.want) checkouts ≡ wants → AreWanted wanted at.tick checkouts pairs → extents_of (planes_of pairs) ≡ extents → All HasSides extents → AreChecked wants at pairs
are_checked wanted wants at extents checkouts pairs listed are same near = record {
  one_each = stand_count wanted at.tick checkouts pairs are.each ∙ sym (length-map checkouts (λ c. c.want)) ∙ ap length listed;
  id_is = are.numbers;
  shared = λ i want pair found there differs. stand_shared wanted at.tick checkouts pairs i want pair are.each (ap (λ ws. slice_get ws i) listed ∙ found) there differs;
  near = pairs_all HasSides pairs (subst (All HasSides) (sym same) near);
}

-- ---- sums

-- the sums of what is wanted
abbrev pub asked_sums : (ℕ → ℕ → Plane → List ℕ) → (Want → Plane) → List Ask → List (List ℕ)
asked_sums sums_of wanted asks = map (λ (ask : Ask). sums_of ask.class ask.ask (wanted ask.want)) asks

-- they are sums of planes
pub asked_are : (most : ℕ) (sums_of : ℕ → ℕ → Plane → List ℕ) (wanted : Want → Plane) (asks : List Ask) → All (λ (ask : Ask). IsPlane most (wanted ask.want) × (area_of (wanted ask.want).extent ≤ greatest_part)) asks → AreSums most sums_of asks (asked_sums sums_of wanted asks)
asked_are most sums_of wanted [] all = tt
asked_are most sums_of wanted (a ∷ rest) all =
    let here = All-head (λ (ask : Ask). IsPlane most (wanted ask.want) × (area_of (wanted ask.want).extent ≤ greatest_part)) a rest all in
    ((wanted a.want, here.0, here.1, refl), asked_are most sums_of wanted rest (All-tail (λ (ask : Ask). IsPlane most (wanted ask.want) × (area_of (wanted ask.want).extent ≤ greatest_part)) a rest all))

module _ {most : ℕ} {K : Type 0} (sums_of : ℕ → ℕ → Plane → List ℕ) (wanted : Want → Plane) where
  abbrev Answers : Ask → ReceiptOf (Value most) K → Type 0
  Answers ask receipt = IsAnswer sums_of wanted ask receipt

  pub answer_sums : (asks : List Ask) (receipts : List (ReceiptOf (Value most) K)) → AllZip Answers asks receipts → sums_in receipts ≡ asked_sums sums_of wanted asks
  answer_sums [] [] zip = refl
  answer_sums [] (r ∷ rs) zip = absurd zip
  answer_sums (a ∷ rest) [] zip = absurd zip
  answer_sums (a ∷ rest) (r ∷ rs) zip = ap (λ (l : List ℕ). l ∷ sums_in rs) zip.0.1 ∙ ap (λ ls. sums_of a.class a.ask (wanted a.want) ∷ ls) (answer_sums rest rs zip.1)

  pub answer_values : (asks : List Ask) (receipts : List (ReceiptOf (Value most) K)) → AllZip Answers asks receipts → All (λ receipt. IsSumsValue receipt.value) receipts
  answer_values [] [] zip = All-nil _
  answer_values [] (r ∷ rs) zip = absurd zip
  answer_values (a ∷ rest) [] zip = absurd zip
  answer_values (a ∷ rest) (r ∷ rs) zip = All-cons (λ receipt. IsSumsValue receipt.value) r rs zip.0.0 (answer_values rest rs zip.1)

-- ---- what is drawn

-- the plane of an effect, from planes that it wants
pub fx_drawn : (set : EffectSet) (drawing : Drawing) (fx : Use) (at moment : Moment) (wanted : Want → Plane) (wants : List Want) (planes : List Plane) → at ≡ moment → wants ≡ set.wants fx at → planes ≡ map wanted wants
    → (let p : Plane = record { extent = set.bounds fx at (extents_of planes); at = drawing.draws fx at planes (asked_sums drawing.sums_of wanted (set.asks fx at)) } in p) ≡ drawn_plane set drawing fx moment wanted
fx_drawn set drawing fx at moment wanted wants planes is same all =
    ap (λ (ps : List Plane). let p : Plane = record { extent = set.bounds fx at (extents_of ps); at = drawing.draws fx at ps (asked_sums drawing.sums_of wanted (set.asks fx at)) } in p) (all ∙ ap (map wanted) same)
    ∙ ap (λ (m : Moment). drawn_plane set drawing fx m wanted) is

-- what an effect wants of a layer is a plane, and not far away
pub want_boxed : (parts : SceneParts) (set : EffectSet) (drawing : Drawing) (of number : ℕ) (comp : Comp) (layer : Layer) (layers : List ℕ) (want : Want) → PlanesAreBoxed parts set drawing → IsLayerIn parts.project of comp layer → number < length layer.effects
    → All (λ index. index < length comp.layers) layers → IsWant (length layers) (base_in (plain_of parts.project)) want
    → (count : ℕ) × (count ≤ number) × IsBoxedPlane (most_of parts.project.depth) count (wanted_by (drawn_from (plain_scene parts set drawing)) (plain_comp comp) (plain_layer layer) number layers want)
want_boxed parts set drawing of number comp layer layers want boxed inside within all is = by want.input refl
  where
    sources : Sources
    sources = drawn_from (plain_scene parts set drawing)

    input : ℤ → Plane
    input = plane_behind sources (plain_comp comp) (plain_layer layer) (take number (plain_layer layer).effects)

    by : (n : ℕ) → want.input ≡ n → (count : ℕ) × (count ≤ number) × IsBoxedPlane (most_of parts.project.depth) count (input_plane want.input input (named_plane sources (plain_comp comp)) layers want.tick.0)
    by zero e = (
      number,
      omega arith,
      subst (λ (n : ℕ). IsBoxedPlane (most_of parts.project.depth) number (input_plane n input (named_plane sources (plain_comp comp)) layers want.tick.0)) (sym e)
          (boxed.behind of inside.index number comp layer want.tick.0 inside.here inside.there (omega (arith, within)) is.held),
    )
    by (suc i) e =
        let found = there_is layers i (omega (arith, e, is.input_is)) in
        let index : ℕ = found.0 in
        let other = there_is comp.layers index (found_holds (λ (k : ℕ). k < length comp.layers) layers i index all found.1) in (
          0,
          omega arith,
          subst (IsBoxedPlane (most_of parts.project.depth) 0)
              (named_wanted sources (plain_comp comp) input layers want.input i index (plain_layer other.0) want.tick.0 e found.1 (slice_get-map plain_layer comp.layers index ∙ ap (option_map plain_layer) other.1))
              (boxed.source of index comp other.0 want.tick.0 inside.here other.1),
        )

wants_planes : (most : ℕ) (P : Want → Type 0) (wanted : Want → Plane) (wants : List Want) → ((want : Want) → P want → IsPlane most (wanted want)) → All P wants → All (IsPlane most) (map wanted wants)
wants_planes most P wanted [] each all = All-nil _
wants_planes most P wanted (w ∷ ws) each all = All-cons (IsPlane most) (wanted w) (map wanted ws) (each w (All-head P w ws all)) (wants_planes most P wanted ws each (All-tail P w ws all))

all_each : {A : Type 0} (P Q : A → Type 0) (xs : List A) → ((x : A) → P x → Q x) → All P xs → All Q xs
all_each P Q [] each all = All-nil Q
all_each P Q (x ∷ xs) each all = All-cons Q x xs (each x (All-head P x xs all)) (all_each P Q xs each (All-tail P x xs all))

-- what an effect draws of such worlds stands for its plane
pub part_stands : (most : ℕ) (set : EffectSet) (drawing : Drawing) (fx : Use) (at : Moment) (extents : List Rect) (planes worlds : List Plane) (sums : List (List ℕ)) (requests : ℕ → Rect) (part request : Rect) (target : Picture)
    → WorldsStandForPlanes → RequestsAreShown → IsLawfulDrawing most set drawing → IsGiven set.schemas fx at
    → Suffices most drawing.sums_of (set.wants fx at) (set.asks fx at) extents (drawing.draws fx at) requests part → IsPart (set.bounds fx at extents) request part
    → IsInput most drawing.sums_of (set.wants fx at) (set.asks fx at) planes sums → IsInput most drawing.sums_of (set.wants fx at) (set.asks fx at) worlds sums
    → extents_of planes ≡ extents → extents_of worlds ≡ extents → AgreeOnNeed requests planes worlds
    → IsDrawnPart (set.bounds fx at extents) part (drawing.draws fx at worlds sums) target
    → StandsFor request (let p : Plane = record { extent = set.bounds fx at (extents_of planes); at = drawing.draws fx at planes sums } in p) target
part_stands most set drawing fx at extents planes worlds sums requests part request target stand shown lawful given suffices is_part input other same other_same agree drawn =
    let all : IsDrawing most (set.bounds fx at extents) (drawing.draws fx at planes sums) = subst (λ rs. IsDrawing most (set.bounds fx at rs) (drawing.draws fx at planes sums)) same (lawful.draws_are fx at planes sums given input) in
    let on_part : Shows part (drawing.draws fx at planes sums) target =
    stand most drawing.sums_of (set.wants fx at) (set.asks fx at) extents (drawing.draws fx at) requests part suffices planes worlds sums target input other same other_same agree drawn.shows in
    record {
      extent = drawn.extent ∙ ap (set.bounds fx at) (sym same);
      agrees =
          shown most (set.bounds fx at extents) request (drawing.draws fx at planes sums) target (subst (IsPart (set.bounds fx at extents) request) (sym drawn.part_is) is_part) all
          (subst (λ (r : Rect). Shows r (drawing.draws fx at planes sums) target) (sym drawn.part_is) on_part);
    }

all_map : {A B : Type 0} (P : B → Type 0) (f : A → B) (xs : List A) → All P (map f xs) → All (λ x. P (f x)) xs
all_map P f [] all = All-nil (λ x. P (f x))
all_map P f (x ∷ xs) all = All-cons (λ y. P (f y)) x xs (All-head P (f x) (map f xs) all) (all_map P f xs (All-tail P (f x) (map f xs) all))

-- what holds of the wants of a plan holds of its checkouts
pub checkouts_want : (P : Want → Type 0) (wants : List Want) (checkouts : List Checkout) → map (λ c. c.want) checkouts ≡ wants → All P wants → All (λ c. P c.want) checkouts
checkouts_want P wants checkouts same all = all_map P (λ c. c.want) checkouts (subst (All P) (sym same) all)

-- their requests are near
pub requests_near : (at : Moment) (extents : List Rect) (checkouts : List Checkout) → AreRequests at extents checkouts → All (λ c. HasSides c.request) checkouts
requests_near at extents checkouts are = λ k d within. (are k _ (slice_get-get_or checkouts k d within)).near

-- asks that a set lists
pub asks_are_asked : (set : EffectSet) (fx : Use) (at : Moment) (asks : List Ask) (base : ℕ) → IsLawfulSet set → IsGiven set.schemas fx at → asks ≡ set.asks fx at → at.base.ticks ≡ base → All (IsAsk (length set.class_names) (length fx.layers) base) asks
asks_are_asked set fx at asks base lawful given is same =
    let are = lawful.asks_are fx at given in
    subst (λ (list : List Ask). All (IsAsk (length set.class_names) (length fx.layers) base) list) (sym is)
    (λ k d within.
    let ask = are.each k d within in
    record {
      class_low = ask.class_low;
      class_high = ask.class_high;
      number = ask.number;
      over = record {
        input_is = subst (λ (n : ℕ). (slice_index_or (set.asks fx at) k d).want.input ≤ n) (sym given.fits.layers_are) ask.over.input_is;
        held = subst (λ (b : ℕ). IsHeld b (slice_index_or (set.asks fx at) k d).want.tick.0) same ask.over.held;
      };
    })

-- what an effect asks of a layer is answered by sums of planes
pub asked_planes : {most : ℕ} (parts : SceneParts) (set : EffectSet) (drawing : Drawing) (of number : ℕ) (comp : Comp) (layer : Layer) (layers : List ℕ) (asks : List Ask) → most ≡ most_of parts.project.depth → PlanesAreBoxed parts set drawing
    → IsLayerIn parts.project of comp layer → number < length layer.effects → All (λ index. index < length comp.layers) layers
    → All (IsAsk (length set.class_names) (length layers) (base_in (plain_of parts.project))) asks
    → AreSums most drawing.sums_of asks (asked_sums drawing.sums_of (wanted_by (drawn_from (plain_scene parts set drawing)) (plain_comp comp) (plain_layer layer) number layers) asks)
asked_planes {most} parts set drawing of number comp layer layers asks depth boxed inside within named all =
    let wanted : Want → Plane = wanted_by (drawn_from (plain_scene parts set drawing)) (plain_comp comp) (plain_layer layer) number layers in
    asked_are most drawing.sums_of wanted asks
    (all_each (IsAsk (length set.class_names) (length layers) (base_in (plain_of parts.project))) (λ (ask : Ask). IsPlane most (wanted ask.want) × (area_of (wanted ask.want).extent ≤ greatest_part)) asks
    (λ ask is.
    let found = want_boxed parts set drawing of number comp layer layers ask.want boxed inside within named is.over in
    (subst (λ (m : ℕ). IsPlane m (wanted ask.want)) (sym depth) found.2.is, boxed_area found.0 (wanted ask.want).extent (omega (arith, found.1, within, layer.few_effects)) found.2.boxed))
    all)

-- an effect that is drawn by a plan, from worlds that stand for what it wants, stands for its plane
pub effect_stands : {most : ℕ} {K E : Type 0} (parts : SceneParts) (set : EffectSet) (drawing : Drawing) (of number : ℕ) (comp : Comp) (layer : Layer) (fx : FxUse) (t : ℤ) (at moment : Moment) (wants : List Want) (extents : List Rect)
    (need : ℕ → Rect) (checkouts : List Checkout) (bounds part planned request : Rect) (pairs : List (ℕ × Pixels most K)) (receipts : List (ReceiptOf (Value most) K)) (made : Result Picture E)
    → most ≡ most_of parts.project.depth → IsDepth most → WorldsStandForPlanes → RequestsAreShown → IsLawfulDrawing most set drawing → PlanesAreBoxed parts set drawing
    → IsLayerIn parts.project of comp layer → number < length layer.effects → All (λ index. index < length comp.layers) fx.layers
    → IsGiven set.schemas (use_of fx) at → at ≡ moment → wants ≡ set.wants (use_of fx) at → All (IsWant (length fx.layers) (base_in (plain_of parts.project))) wants
    → All (IsAsk (length set.class_names) (length fx.layers) (base_in (plain_of parts.project))) (set.asks (use_of fx) at)
    → AllZip (IsWantedExtent set parts (plain_comp comp) (plain_layer layer) number fx.layers) wants extents → AreCheckouts (set.wants (use_of fx) at) extents need checkouts
    → Suffices most drawing.sums_of (set.wants (use_of fx) at) (set.asks (use_of fx) at) extents (drawing.draws (use_of fx) at) (request_at checkouts) planned → IsPart (set.bounds (use_of fx) at extents) request planned
    → AreWanted (wanted_by (drawn_from (plain_scene parts set drawing)) (plain_comp comp) (plain_layer layer) number fx.layers) at.tick checkouts pairs
    → AllZip (IsAnswer drawing.sums_of (wanted_by (drawn_from (plain_scene parts set drawing)) (plain_comp comp) (plain_layer layer) number fx.layers)) (set.asks (use_of fx) at) receipts
    → part ≡ planned → bounds ≡ set.bounds (use_of fx) at extents
    → IfOk made (IsDrawnPart bounds part (drawing.draws (use_of fx) at (planes_of pairs) (sums_in receipts)))
    → IfOk made (StandsFor request (drawn_plane set drawing (use_of fx) moment (wanted_by (drawn_from (plain_scene parts set drawing)) (plain_comp comp) (plain_layer layer) number fx.layers)))
effect_stands parts set drawing of number comp layer fx t at moment wants extents need checkouts bounds part planned request pairs receipts (Err e)
    depth depth_is stand shown lawful boxed inside within named given same listed wanted_all asked_all zip are suffices is_part all answered part_is bounds_is drawn = tt
effect_stands {most} parts set drawing of number comp layer fx t at moment wants extents need checkouts bounds part planned request pairs receipts (Ok target)
    depth depth_is stand shown lawful boxed inside within named given same listed wanted_all asked_all zip are suffices is_part all answered part_is bounds_is drawn =
    let wanted : Want → Plane = wanted_by (drawn_from (plain_scene parts set drawing)) (plain_comp comp) (plain_layer layer) number fx.layers in
    let planes : List Plane = map wanted wants in
    let sums : List (List ℕ) = asked_sums drawing.sums_of wanted (set.asks (use_of fx) at) in
    let checked : map (λ c. c.want) checkouts ≡ wants = plan_wants (set.wants (use_of fx) at) extents need checkouts are ∙ sym listed in
    let here : extents_of planes ≡ extents = sym (wanted_same set parts (plain_comp comp) (plain_layer layer) number fx.layers wants extents drawing zip) in
    let there : extents_of (planes_of pairs) ≡ extents = stand_extents wanted at.tick checkouts pairs all.each ∙ ap (λ ws. extents_of (map wanted ws)) checked ∙ here in
    let sums_are : AreSums most drawing.sums_of (set.asks (use_of fx) at) sums = asked_planes {most = most} parts set drawing of number comp layer fx.layers (set.asks (use_of fx) at) depth boxed inside within named asked_all in
    let ideal : All (IsPlane most) planes =
    subst (λ (m : ℕ). All (IsPlane m) planes) (sym depth)
    (wants_planes (most_of parts.project.depth) (IsWant (length fx.layers) (base_in (plain_of parts.project))) wanted wants (λ want is. (want_boxed parts set drawing of number comp layer fx.layers want boxed inside within named is).2.is) wanted_all) in
    let input : IsInput most drawing.sums_of (set.wants (use_of fx) at) (set.asks (use_of fx) at) planes sums = record {
      depth = depth_is;
      planes_are = ideal;
      one_each = length-map wants wanted ∙ ap length listed;
      sums_are = sums_are;
    } in
    let other : IsInput most drawing.sums_of (set.wants (use_of fx) at) (set.asks (use_of fx) at) (planes_of pairs) sums = record {
      depth = depth_is;
      planes_are = stand_planes wanted at.tick checkouts pairs all.each;
      one_each = planes_count pairs ∙ stand_count wanted at.tick checkouts pairs all.each ∙ are.one_each;
      sums_are = sums_are;
    } in
    let agree : AgreeOnNeed (request_at checkouts) planes (planes_of pairs) = subst (λ ws. AgreeOnNeed (request_at checkouts) (map wanted ws) (planes_of pairs)) checked (stand_agree wanted at.tick checkouts pairs all.each) in
    let from_sums : IsDrawnPart bounds part (drawing.draws (use_of fx) at (planes_of pairs) sums) target =
    subst (λ (ls : List (List ℕ)). IsDrawnPart bounds part (drawing.draws (use_of fx) at (planes_of pairs) ls) target) (answer_sums drawing.sums_of wanted (set.asks (use_of fx) at) receipts answered) drawn in
    let is : IsDrawnPart (set.bounds (use_of fx) at extents) planned (drawing.draws (use_of fx) at (planes_of pairs) sums) target =
    subst (λ (r : Rect). IsDrawnPart (set.bounds (use_of fx) at extents) r (drawing.draws (use_of fx) at (planes_of pairs) sums) target) part_is
    (subst (λ (r : Rect). IsDrawnPart r part (drawing.draws (use_of fx) at (planes_of pairs) sums) target) bounds_is from_sums) in
    subst (λ (p : Plane). StandsFor request p target) (fx_drawn set drawing (use_of fx) at moment wanted wants planes same listed refl)
    (part_stands most set drawing (use_of fx) at extents planes (planes_of pairs) sums (request_at checkouts) planned request target stand shown lawful given suffices is_part input other here there agree is)

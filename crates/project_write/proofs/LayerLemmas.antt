-- The law of the value of a layer.
use Rattle.std.proofs.Common.{◌≡◌, ℕ, ◌≤◌, List, [], ◌∷◌, length, codes, Bool, true, false, ◌&&◌, Option, Some, None, is_some, unwrap_or, refl, sym, ap, subst, ◌∙◌, arith}
use Rattle.std.proofs.lemmas.Bool.{false≢true}
use Rattle.std.proofs.lemmas.Bool.Decides.{nat_tests}
use Rattle.std.specs.List.{list_any}
use Rattle.serde_json.specs.Data.{Data, object, Members}
use Rattle.rational_time.specs.declared.time.Time.{Time}
use Rattle.param_stream.specs.declared.key.Keyframe.{Keyframe}
use Rattle.transfer_mode.specs.declared.mode.Mode.{Mode}
use Rattle.track_matte.specs.declared.matte.Matte.{Matte}
use Rattle.project_model.specs.Bounds.{is_among, most_effects}
use Rattle.project_model.specs.Constant.{zero_time}
use Rattle.project_model.specs.Plain.{plain_fx}
use Rattle.project_model.specs.declared.effect.EffectSchema.{EffectSchema}
use Rattle.project_model.specs.declared.item.Item.{Item}
use Rattle.project_model.specs.declared.layer.Layer.{Layer}
use Rattle.project_model.specs.declared.plain.PlainFx.{PlainFx}
use Rattle.project_model.specs.declared.plain.PlainLayer.{PlainLayer}
use Rattle.project_json.specs.EffectForm.{is_effect, are_effects, effects_of}
use Rattle.project_json.specs.FormRules.{breaks_effect, breaks_layer_itself, form_rules}
use Rattle.project_json.specs.Parts.{is_object}
use Rattle.project_json.specs.PlainData.{plain_fx_of}
use Rattle.project_json.specs.Reads.{time_in}
use Rattle.project_json.specs.Shapes.{is_time}
use Rattle.project_write.specs.Parts.{IsArrayOf, IsTime, IsMode, IsMatte, IsStream, IsItem, IsFx, IsLayer, WithEnd, object_of, members_of}
use Rattle.project_write.proofs.ListLemmas.{array_map, array_all, array_none, array_whole}
use Rattle.project_write.proofs.ObjectLemmas.{deeper, object_whole, kept, both_true, any_of_two, objects_of, only_is_object}

second : (a b : Bool) → a && b ≡ true → b ≡ true
second true b h = h
second false b h = absurd (false≢true h)

effect_is_object : (d : Data) → is_effect d ≡ true → is_object d ≡ true
effect_is_object d h = only_is_object (is_object d) _ (second _ _ h)

few : (n : ℕ) → n ≤ most_effects → is_among 0 most_effects n ≡ true
few n h = grind (arith, nat_tests)

effects_form : (schemas : List EffectSchema) (layer : Layer) (effects : Data) → length layer.effects ≤ most_effects
    → IsArrayOf (IsFx schemas) layer.effects effects → are_effects effects ≡ true
effects_form schemas layer effects less a =
    both_true _ _ (objects_of (IsFx schemas) 0 most_effects layer.effects effects a (λ x d r. effect_is_object d r.effect) (few (length layer.effects) less))
    (array_all (IsFx schemas) is_effect (λ x d r. r.effect) layer.effects effects a)

-- the values of a layer's members, but for its end
pub record Parts (schemas : List EffectSchema) (layer : Layer) (effects begin matte mode opacity source start x y : Data) : Type 0 where
  pub effects_are : IsArrayOf (IsFx schemas) layer.effects effects
  pub begin_is : IsTime layer.in_point begin
  pub matte_is : IsMatte layer.matte matte
  pub mode_is : IsMode layer.mode mode
  pub opacity_is : IsStream layer.opacity.keys opacity
  pub source_is : IsItem layer.source source
  pub start_is : IsTime layer.start start
  pub x_is : IsStream layer.x.keys x
  pub y_is : IsStream layer.y.keys y

abbrev pub open_members : Data → Data → Data → Data → Data → Data → Data → Data → Data → List (List ℕ × Data)
open_members effects begin matte mode opacity source start x y =
    (codes "effects", effects) ∷ (codes "in", begin) ∷ (codes "matte", matte) ∷ (codes "mode", mode) ∷ (codes "opacity", opacity)
    ∷ (codes "source", source) ∷ (codes "start", start) ∷ (codes "x", x) ∷ (codes "y", y) ∷ []

abbrev ended_members : Data → Data → Data → Data → Data → Data → Data → Data → Data → Data → List (List ℕ × Data)
ended_members effects begin matte mode opacity end source start x y =
    (codes "effects", effects) ∷ (codes "in", begin) ∷ (codes "matte", matte) ∷ (codes "mode", mode) ∷ (codes "opacity", opacity)
    ∷ (codes "out", end) ∷ (codes "source", source) ∷ (codes "start", start) ∷ (codes "x", x) ∷ (codes "y", y) ∷ []

abbrev layer_from : Item → Time → Time → Option Time → Option Mode → Option Matte → List Keyframe → List Keyframe → List Keyframe → List PlainFx → PlainLayer
layer_from source start begin end mode matte opacity x y effects = record {
  source = source;
  start = start;
  in_point = begin;
  out_point = end;
  mode = mode;
  matte = matte;
  opacity = opacity;
  x = x;
  y = y;
  effects = effects;
}

same_layer : (source source' : Item) (start start' begin begin' : Time) (end end' : Option Time) (mode mode' : Option Mode) (matte matte' : Option Matte)
    (opacity opacity' x x' y y' : List Keyframe) (effects effects' : List PlainFx)
    → source ≡ source' → start ≡ start' → begin ≡ begin' → end ≡ end' → mode ≡ mode' → matte ≡ matte' → opacity ≡ opacity' → x ≡ x' → y ≡ y' → effects ≡ effects'
    → layer_from source start begin end mode matte opacity x y effects ≡ layer_from source' start' begin' end' mode' matte' opacity' x' y' effects'
same_layer source source' start start' begin begin' end end' mode mode' matte matte' opacity opacity' x x' y y' effects effects' a b c d e f g h i j = rw (a, b, c, d, e, f, g, h, i, j)

is_time_of : (time : Time) (d : Data) → IsTime time d → is_time d ≡ true
is_time_of time d t = ap is_some t.read

pub time_read : (time : Time) (d : Data) → IsTime time d → unwrap_or (time_in d) zero_time ≡ time
time_read time d t = ap (λ (o : Option Time). unwrap_or o zero_time) t.read

open_layer : (schemas : List EffectSchema) (layer : Layer) (effects begin matte mode opacity source start x y : Data)
    → Parts schemas layer effects begin matte mode opacity source start x y → layer.out_point ≡ None
    → IsLayer schemas layer (object_of (open_members effects begin matte mode opacity source start x y))
open_layer schemas layer effects begin matte mode opacity source start x y p none =
    let d = object_of (open_members effects begin matte mode opacity source start x y) in
    let streams = both_true _ _ p.opacity_is.form (both_true _ _ p.x_is.form (both_true _ _ p.y_is.form refl)) in
    let keys = both_true _ _ p.opacity_is.timed (both_true _ _ p.x_is.timed (both_true _ _ p.y_is.timed refl)) in
    let times = both_true _ _ (is_time_of layer.start start p.start_is) (both_true _ _ (is_time_of layer.in_point begin p.begin_is) refl) in
    let itself : list_any (λ rule. breaks_layer_itself rule d) form_rules ≡ false =
    kept _ _ p.source_is.form (kept _ _ (effects_form schemas layer effects layer.few_effects p.effects_are)
    (kept _ _ streams (kept _ _ (both_true _ _ times keys) refl))) in
    let inside : list_any (λ rule. list_any (breaks_effect schemas rule) (effects_of d)) form_rules ≡ false =
    array_none (IsFx schemas) (breaks_effect schemas) form_rules (λ fx e r. r.form) layer.effects effects p.effects_are in
    record {
      is = refl;
      form = any_of_two (λ rule. breaks_layer_itself rule d) (λ rule. list_any (breaks_effect schemas rule) (effects_of d)) form_rules itself inside;
      read = same_layer _ _ _ _ _ _ _ _ _ _ _ _ _ _ _ _ _ _ _ _ p.source_is.read (time_read layer.start start p.start_is)
          (time_read layer.in_point begin p.begin_is) (sym none) p.mode_is.read p.matte_is.read p.opacity_is.read p.x_is.read p.y_is.read
          (array_map (IsFx schemas) plain_fx (plain_fx_of schemas) (λ fx e r. r.read) layer.effects effects p.effects_are);
      whole = object_whole 6 (open_members effects begin matte mode opacity source start x y) (
        array_whole (IsFx schemas) 5 (λ fx e r. r.whole) layer.effects effects p.effects_are,
        (
          deeper 1 6 begin (omega arith) p.begin_is.whole,
          (
            deeper 0 6 matte (omega arith) p.matte_is.whole,
            (
              deeper 0 6 mode (omega arith) p.mode_is.whole,
              (
                deeper 3 6 opacity (omega arith) p.opacity_is.whole,
                (
                  deeper 2 6 source (omega arith) p.source_is.whole,
                  (
                    deeper 1 6 start (omega arith) p.start_is.whole,
                    (deeper 3 6 x (omega arith) p.x_is.whole, (deeper 3 6 y (omega arith) p.y_is.whole, tt)),
                  ),
                ),
              ),
            ),
          ),
        ),
      );
    }

ended_layer : (schemas : List EffectSchema) (layer : Layer) (effects begin matte mode opacity end source start x y : Data) (time : Time)
    → Parts schemas layer effects begin matte mode opacity source start x y → layer.out_point ≡ Some time → IsTime time end
    → IsLayer schemas layer (object_of (ended_members effects begin matte mode opacity end source start x y))
ended_layer schemas layer effects begin matte mode opacity end source start x y time p some end_is =
    let d = object_of (ended_members effects begin matte mode opacity end source start x y) in
    let streams = both_true _ _ p.opacity_is.form (both_true _ _ p.x_is.form (both_true _ _ p.y_is.form refl)) in
    let keys = both_true _ _ p.opacity_is.timed (both_true _ _ p.x_is.timed (both_true _ _ p.y_is.timed refl)) in
    let times = both_true _ _ (is_time_of layer.start start p.start_is) (both_true _ _ (is_time_of layer.in_point begin p.begin_is)
    (both_true _ _ (is_time_of time end end_is) refl)) in
    let itself : list_any (λ rule. breaks_layer_itself rule d) form_rules ≡ false =
    kept _ _ p.source_is.form (kept _ _ (effects_form schemas layer effects layer.few_effects p.effects_are)
    (kept _ _ streams (kept _ _ (both_true _ _ times keys) refl))) in
    let inside : list_any (λ rule. list_any (breaks_effect schemas rule) (effects_of d)) form_rules ≡ false =
    array_none (IsFx schemas) (breaks_effect schemas) form_rules (λ fx e r. r.form) layer.effects effects p.effects_are in
    record {
      is = refl;
      form = any_of_two (λ rule. breaks_layer_itself rule d) (λ rule. list_any (breaks_effect schemas rule) (effects_of d)) form_rules itself inside;
      read = same_layer _ _ _ _ _ _ _ _ _ _ _ _ _ _ _ _ _ _ _ _ p.source_is.read (time_read layer.start start p.start_is)
          (time_read layer.in_point begin p.begin_is) (end_is.read ∙ sym some) p.mode_is.read p.matte_is.read p.opacity_is.read p.x_is.read p.y_is.read
          (array_map (IsFx schemas) plain_fx (plain_fx_of schemas) (λ fx e r. r.read) layer.effects effects p.effects_are);
      whole = object_whole 6 (ended_members effects begin matte mode opacity end source start x y) (
        array_whole (IsFx schemas) 5 (λ fx e r. r.whole) layer.effects effects p.effects_are,
        (
          deeper 1 6 begin (omega arith) p.begin_is.whole,
          (
            deeper 0 6 matte (omega arith) p.matte_is.whole,
            (
              deeper 0 6 mode (omega arith) p.mode_is.whole,
              (
                deeper 3 6 opacity (omega arith) p.opacity_is.whole,
                (
                  deeper 1 6 end (omega arith) end_is.whole,
                  (
                    deeper 2 6 source (omega arith) p.source_is.whole,
                    (
                      deeper 1 6 start (omega arith) p.start_is.whole,
                      (deeper 3 6 x (omega arith) p.x_is.whole, (deeper 3 6 y (omega arith) p.y_is.whole, tt)),
                    ),
                  ),
                ),
              ),
            ),
          ),
        ),
      );
    }

pub layer_of : (schemas : List EffectSchema) (layer : Layer) (effects begin matte mode opacity source start x y : Data) (ms : Members)
    → Parts schemas layer effects begin matte mode opacity source start x y
    → WithEnd layer.out_point (members_of (open_members effects begin matte mode opacity source start x y)) ms
    → IsLayer schemas layer (object ms)
layer_of schemas layer effects begin matte mode opacity source start x y ms p with = by layer.out_point refl with
  where
    by : (o : Option Time) → layer.out_point ≡ o → WithEnd o (members_of (open_members effects begin matte mode opacity source start x y)) ms
        → IsLayer schemas layer (object ms)
    by None is w = subst (λ ms. IsLayer schemas layer (object ms)) (sym w) (open_layer schemas layer effects begin matte mode opacity source start x y p is)
    by (Some time) is w =
        subst (λ ms. IsLayer schemas layer (object ms)) (sym w.2)
        (ended_layer schemas layer effects begin matte mode opacity w.0 source start x y time p is w.1)

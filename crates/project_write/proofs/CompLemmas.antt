-- Laws of the values of clips and compositions.
use Rattle.std.proofs.Common.{◌≡◌, ℕ, ◌≤◌, List, [], ◌∷◌, length, codes, true, Option, is_some, unwrap_or, refl, ap, arith}
use Rattle.std.proofs.lemmas.Bool.Decides.{nat_tests}
use Rattle.serde_json.specs.Data.{Data, string}
use Rattle.rational_time.specs.declared.time.Time.{Time}
use Rattle.project_model.specs.Bounds.{is_among, most_layers}
use Rattle.project_model.specs.Plain.{plain_layer}
use Rattle.project_model.specs.declared.clip.ClipUse.{ClipUse}
use Rattle.project_model.specs.declared.comp.Comp.{Comp}
use Rattle.project_model.specs.declared.effect.EffectSchema.{EffectSchema}
use Rattle.project_model.specs.declared.plain.PlainComp.{PlainComp}
use Rattle.project_model.specs.declared.plain.PlainLayer.{PlainLayer}
use Rattle.project_json.specs.FormRules.{breaks_layer, form_rules}
use Rattle.project_json.specs.Parts.{count_in}
use Rattle.project_json.specs.PlainData.{plain_layer_of}
use Rattle.project_write.specs.Parts.{IsArrayOf, IsCount, IsByte, IsTime, IsClip, IsLayer, IsComp, object_of}
use Rattle.project_write.proofs.ListLemmas.{array_length, array_map, array_none, array_whole}
use Rattle.project_write.proofs.LayerLemmas.{time_read}
use Rattle.project_write.proofs.ObjectLemmas.{deeper, object_whole, kept, objects_of}

count_read : (n : ℕ) (d : Data) → IsCount n d → unwrap_or (count_in d) 0 ≡ n
count_read n d c = ap (λ (o : Option ℕ). unwrap_or o 0) c.read

-- ---- clips

abbrev pub clip_members : Data → Data → Data → Data → List ℕ → Data → List (List ℕ × Data)
clip_members depth frame frames height name width =
    (codes "depth", depth) ∷ (codes "frame", frame) ∷ (codes "frames", frames) ∷ (codes "height", height) ∷ (codes "name", string name) ∷ (codes "width", width) ∷ []

abbrev clip_from : List ℕ → ℕ → ℕ → ℕ → Time → ℕ → ClipUse
clip_from name width height depth frame frames = record { name = name; width = width; height = height; depth = depth; frame = frame; frames = frames }

same_clip : (name name' : List ℕ) (width width' height height' depth depth' : ℕ) (frame frame' : Time) (frames frames' : ℕ)
    → name ≡ name' → width ≡ width' → height ≡ height' → depth ≡ depth' → frame ≡ frame' → frames ≡ frames'
    → clip_from name width height depth frame frames ≡ clip_from name' width' height' depth' frame' frames'
same_clip name name' width width' height height' depth depth' frame frame' frames frames' a b c d e f = rw (a, b, c, d, e, f)

pub clip_of : (clip : ClipUse) (depth frame frames height width : Data) → IsByte clip.depth depth → IsTime clip.frame frame → IsCount clip.frames frames
    → IsCount clip.height height → IsCount clip.width width → IsClip clip (object_of (clip_members depth frame frames height clip.name width))
clip_of clip depth frame frames height width b t f h w = record {
  form = refl;
  timed = ap is_some t.read;
  read = same_clip _ _ _ _ _ _ _ _ _ _ _ _ refl (count_read clip.width width w) (count_read clip.height height h)
      (ap (λ (o : Option ℕ). unwrap_or o 0) b.read) (time_read clip.frame frame t) (count_read clip.frames frames f);
  whole = object_whole 1 (clip_members depth frame frames height clip.name width) (
    deeper 0 1 depth (omega arith) b.whole,
    (
      t.whole,
      (
        deeper 0 1 frames (omega arith) f.whole,
        (
          deeper 0 1 height (omega arith) h.whole,
          (record { whole = refl; nests = omega arith }, (deeper 0 1 width (omega arith) w.whole, tt)),
        ),
      ),
    ),
  );
}

-- ---- compositions

abbrev pub comp_members : Data → Data → Data → Data → Data → List (List ℕ × Data)
comp_members frame frames height layers width =
    (codes "frame", frame) ∷ (codes "frames", frames) ∷ (codes "height", height) ∷ (codes "layers", layers) ∷ (codes "width", width) ∷ []

abbrev comp_from : ℕ → ℕ → Time → ℕ → List PlainLayer → PlainComp
comp_from width height frame frames layers = record { width = width; height = height; frame = frame; frames = frames; layers = layers }

same_comp : (width width' height height' : ℕ) (frame frame' : Time) (frames frames' : ℕ) (layers layers' : List PlainLayer)
    → width ≡ width' → height ≡ height' → frame ≡ frame' → frames ≡ frames' → layers ≡ layers'
    → comp_from width height frame frames layers ≡ comp_from width' height' frame' frames' layers'
same_comp width width' height height' frame frame' frames frames' layers layers' a b c d e = rw (a, b, c, d, e)

few : (n : ℕ) → n ≤ most_layers → is_among 0 most_layers n ≡ true
few n h = grind (arith, nat_tests)

pub comp_of : (schemas : List EffectSchema) (comp : Comp) (frame frames height layers width : Data) → IsTime comp.frame frame → IsCount comp.frames frames
    → IsCount comp.height height → IsArrayOf (IsLayer schemas) comp.layers layers → IsCount comp.width width
    → IsComp schemas comp (object_of (comp_members frame frames height layers width))
comp_of schemas comp frame frames height layers width t f h ls w = record {
  is = refl;
  form = kept _ _ (objects_of (IsLayer schemas) 0 most_layers comp.layers layers ls (λ x d r. r.is) (few (length comp.layers) comp.few_layers))
      (kept _ _ (ap is_some t.read) refl);
  layers = array_none (IsLayer schemas) (breaks_layer schemas) form_rules (λ x d r. r.form) comp.layers layers ls;
  count = array_length (IsLayer schemas) comp.layers layers ls;
  read = same_comp _ _ _ _ _ _ _ _ _ _ (count_read comp.width width w) (count_read comp.height height h) (time_read comp.frame frame t)
      (count_read comp.frames frames f) (array_map (IsLayer schemas) plain_layer (plain_layer_of schemas) (λ x d r. r.read) comp.layers layers ls);
  whole = object_whole 8 (comp_members frame frames height layers width) (
    deeper 1 8 frame (omega arith) t.whole,
    (
      deeper 0 8 frames (omega arith) f.whole,
      (
        deeper 0 8 height (omega arith) h.whole,
        (array_whole (IsLayer schemas) 7 (λ x d r. r.whole) comp.layers layers ls, (deeper 0 8 width (omega arith) w.whole, tt)),
      ),
    ),
  );
}

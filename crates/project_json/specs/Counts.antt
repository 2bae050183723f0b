-- Which rules look into compositions and layers, and the counts on which their places' indices rest.
use Rattle.std.specs.Prelude.{◌≡◌, ◌≤◌, length, codes, Bool, true, false, IsTrue, All}
use Rattle.serde_json.specs.Data.{Data}
use Rattle.project_model.specs.Bounds.{most_comps, most_layers}
use Rattle.project_json.specs.FormRules.{breaks_project, breaks_comp}
use Rattle.project_json.specs.PlainData.{items_of}
use Rattle.project_json.specs.declared.form.FormRule.{FormRule}
use Rattle.project_json.specs.declared.form.FormRule.TheVariants.{Comps, Layers, Source, Effects, EffectName, Threaded, EffectCounts, Streams, Times}

-- the rule looks into compositions
abbrev pub is_in_comps : FormRule → Bool
is_in_comps Comps = true
is_in_comps Layers = true
is_in_comps Source = true
is_in_comps Effects = true
is_in_comps EffectName = true
is_in_comps Threaded = true
is_in_comps EffectCounts = true
is_in_comps Streams = true
is_in_comps Times = true
is_in_comps _ = false

-- the rule looks into layers
abbrev pub is_in_layers : FormRule → Bool
is_in_layers Layers = true
is_in_layers Source = true
is_in_layers Effects = true
is_in_layers EffectName = true
is_in_layers Threaded = true
is_in_layers EffectCounts = true
is_in_layers Streams = true
is_in_layers Times = true
is_in_layers _ = false

-- where the rule looks into this composition's layers, they are few
pub record HasFewLayers (rule : FormRule) (comp : Data) : Type 0 where
  pub few : IsTrue (is_in_layers rule) → breaks_comp rule comp ≡ false → length (items_of (codes "layers") comp) ≤ most_layers

-- where the rule looks into compositions, they are few, and so are their layers
pub record IsIndexed (rule : FormRule) (top : Data) : Type 0 where
  pub few_comps : IsTrue (is_in_comps rule) → breaks_project top rule ≡ false → length (items_of (codes "comps") top) ≤ most_comps
  pub few_layers : All (HasFewLayers rule) (items_of (codes "comps") top)

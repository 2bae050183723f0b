-- The rules on a project's numbers: a line a rule for what breaks it, at each kind of place.
use Rattle.std.specs.Prelude.{ℕ, zero, suc, ◌*◌, ◌&&◌, Bool, true, false, not, nat_lt, List, [], ◌∷◌, length, map, pos, ◌*ℤ◌, int_lt, int_le, Option, Some, None, is_none, slice_get}
use Rattle.std.specs.List.{list_all, list_any}
use Rattle.track_matte.specs.declared.matte.Matte.{Matte as MatteKind}
use Rattle.track_matte.specs.declared.matte.Matte.TheVariants as matte
use Rattle.rational_time.specs.Times.{common_base, is_near, comes_before}
use Rattle.rational_time.specs.declared.time.Time.{Time}
use Rattle.rational_time.specs.declared.time.TheConstants.{MOST_SECONDS}
use Rattle.param_stream.specs.Curve.{rises}
use Rattle.project_model.specs.Bounds.{most_of, most_frames, greatest_base, greatest_rank, full_opacity, least_position, greatest_position, is_among, is_bit_depth, is_size, is_colour, all_between}
use Rattle.project_model.specs.Clip.{is_clip_name, are_different, is_long_clip, are_large}
use Rattle.project_model.specs.EffectRules.{has_params, has_layers, has_sequence}
use Rattle.project_model.specs.Nesting.{reaches, stack_rank, layer_ranks}
use Rattle.project_model.specs.Times.{layer_times, times_of}
use Rattle.project_model.specs.Places.{first_place}
use Rattle.project_model.specs.declared.clip.ClipUse.{ClipUse}
use Rattle.project_model.specs.declared.effect.EffectSchema.{EffectSchema}
use Rattle.project_model.specs.declared.item.Item.{Item}
use Rattle.project_model.specs.declared.item.Item.TheVariants.{Solid as SolidItem, Clip as ClipItem, Comp as CompItem}
use Rattle.project_model.specs.declared.plain.PlainLayer.{PlainLayer}
use Rattle.project_model.specs.declared.plain.PlainComp.{PlainComp}
use Rattle.project_model.specs.declared.plain.PlainProject.{PlainProject}
use Rattle.project_model.specs.declared.place.Place.{Place}
use Rattle.project_model.specs.declared.rule.Rule.{Rule}
use Rattle.project_model.specs.declared.rule.Rule.TheVariants.{Root, ClipName, ClipNames, Size, ClipDepth, Frames, FrameValue, Near, Length, Base, ClipBytes, Solid, ClipSource, CompSource, Nesting, Mode, Matte, MatteLayer, Span, Rising, Range, Params, EffectLayers, Sequence, Rank}

abbrev pub number_of : Rule → ℕ
number_of Root = 16
number_of ClipName = 17
number_of ClipNames = 18
number_of Size = 19
number_of ClipDepth = 20
number_of Frames = 21
number_of FrameValue = 22
number_of Near = 23
number_of Length = 24
number_of Base = 25
number_of ClipBytes = 26
number_of Solid = 27
number_of ClipSource = 28
number_of CompSource = 29
number_of Nesting = 30
number_of Mode = 31
number_of Matte = 32
number_of MatteLayer = 33
number_of Span = 34
number_of Rising = 35
number_of Range = 36
number_of Params = 37
number_of EffectLayers = 38
number_of Sequence = 39
number_of Rank = 40

-- all of them, in the order of their numbers
abbrev pub rules : List Rule
rules =
    Root ∷ ClipName ∷ ClipNames ∷ Size ∷ ClipDepth ∷ Frames ∷ FrameValue ∷ Near ∷ Length ∷ Base ∷ ClipBytes ∷ Solid ∷ ClipSource
    ∷ CompSource ∷ Nesting ∷ Mode ∷ Matte ∷ MatteLayer ∷ Span ∷ Rising ∷ Range ∷ Params ∷ EffectLayers
    ∷ Sequence ∷ Rank ∷ []

-- a solid is of a size and a colour that it may have
abbrev pub is_solid : ℕ → Item → Bool
is_solid most (SolidItem width height a r g b) = is_size width height && is_colour most a r g b
is_solid most _ = true

-- a clip is one of so many, by its index
abbrev pub is_clip_of : ℕ → Item → Bool
is_clip_of count (ClipItem index) = nat_lt index count
is_clip_of count _ = true

-- so is a nested composition
abbrev pub is_comp_of : ℕ → Item → Bool
is_comp_of count (CompItem index) = nat_lt index count
is_comp_of count _ = true

-- a matte other than none
abbrev pub is_matte : Option MatteKind → Bool
is_matte None = false
is_matte (Some matte.None) = false
is_matte (Some _) = true

abbrev pub has_matte : PlainLayer → Bool
has_matte layer = is_matte layer.matte

-- the layer that stands above the one of this index
abbrev pub layer_above : PlainComp → ℕ → Option PlainLayer
layer_above comp zero = None
layer_above comp (suc above) = slice_get comp.layers above

-- there is a layer, and it has no matte itself
abbrev pub may_be_matte : Option PlainLayer → Bool
may_be_matte None = false
may_be_matte (Some layer) = not (has_matte layer)

-- a layer of this index finds above it one that may serve as its matte
abbrev pub has_matte_layer : PlainComp → ℕ → Bool
has_matte_layer comp index = may_be_matte (layer_above comp index)

-- all frames of the composition together last longer than a time may be from zero
abbrev pub is_too_long : PlainComp → Bool
is_too_long comp = int_lt (pos (MOST_SECONDS * comp.frame.scale)) (comp.frame.value *ℤ pos comp.frames)

-- a time is no later than all frames of the composition together last
abbrev pub is_within_length : Time → PlainComp → Bool
is_within_length time comp =
    int_le (time.value *ℤ pos comp.frame.scale) ((comp.frame.value *ℤ pos comp.frames) *ℤ pos time.scale)

-- a layer begins no later than it ends
abbrev pub begins_in_time : PlainComp → Time → Option Time → Bool
begins_in_time comp begin None = is_within_length begin comp
begins_in_time comp begin (Some end) = not (comes_before end begin)

-- the times of each stream of the layer rise
abbrev pub are_rising : PlainLayer → Bool
are_rising layer =
    rises layer.opacity && rises layer.x && rises layer.y && list_all (λ fx. list_all rises fx.params) layer.effects

-- what breaks a rule in the clips
abbrev pub break_clips : List ClipUse → Rule → Bool
break_clips clips ClipName = not (list_all (λ clip. is_clip_name clip.name) clips)
break_clips clips ClipNames = not (are_different (map (λ clip. clip.name) clips))
break_clips clips Size = not (list_all (λ clip. is_size clip.width clip.height) clips)
break_clips clips ClipDepth = not (list_all (λ clip. is_bit_depth clip.depth) clips)
break_clips clips Frames = not (list_all (λ clip. is_among 1 most_frames clip.frames) clips)
break_clips clips FrameValue = not (list_all (λ clip. int_le (pos 1) clip.frame.value) clips)
break_clips clips Near = not (list_all (λ clip. is_near clip.frame) clips)
break_clips clips Length = not (list_all (λ clip. not (is_long_clip clip)) clips)
break_clips clips ClipBytes = are_large clips
break_clips clips _ = false

-- what breaks a rule in the project outside its compositions, its clips included
abbrev pub breaks_project : PlainProject → Rule → Bool
breaks_project project Root = not (nat_lt project.root (length project.comps))
breaks_project project Base = nat_lt greatest_base (common_base (times_of project))
breaks_project project rule = break_clips project.clips rule

-- what breaks it in a composition outside its layers, which has this index
abbrev pub breaks_comp : PlainProject → Rule → ℕ → PlainComp → Bool
breaks_comp project Size index comp = not (is_size comp.width comp.height)
breaks_comp project Frames index comp = not (is_among 1 most_frames comp.frames)
breaks_comp project FrameValue index comp = int_lt comp.frame.value (pos 1)
breaks_comp project Near index comp = not (is_near comp.frame)
breaks_comp project Length index comp = is_too_long comp
breaks_comp project Nesting index comp = reaches project index index
breaks_comp project _ index comp = false

-- what breaks it in a layer, which has this index in the composition, where the effects are those of a set with these schemas
abbrev pub breaks_layer : List EffectSchema → PlainProject → Rule → PlainComp → ℕ → PlainLayer → Bool
breaks_layer schemas project Near comp index layer = not (list_all is_near (layer_times layer))
breaks_layer schemas project Solid comp index layer = not (is_solid (most_of project.depth) layer.source)
breaks_layer schemas project ClipSource comp index layer = not (is_clip_of (length project.clips) layer.source)
breaks_layer schemas project CompSource comp index layer = not (is_comp_of (length project.comps) layer.source)
breaks_layer schemas project Mode comp index layer = is_none layer.mode
breaks_layer schemas project Matte comp index layer = is_none layer.matte
breaks_layer schemas project MatteLayer comp index layer = has_matte layer && not (has_matte_layer comp index)
breaks_layer schemas project Span comp index layer = not (begins_in_time comp layer.in_point layer.out_point)
breaks_layer schemas project Rising comp index layer = not (are_rising layer)
breaks_layer schemas project Range comp index layer =
    not (all_between (pos 0) full_opacity layer.opacity
    && all_between least_position greatest_position layer.x
    && all_between least_position greatest_position layer.y)
breaks_layer schemas project Params comp index layer = not (list_all (has_params schemas) layer.effects)
breaks_layer schemas project EffectLayers comp index layer = not (list_all (has_layers schemas (length comp.layers)) layer.effects)
breaks_layer schemas project Sequence comp index layer = not (list_all (has_sequence schemas) layer.effects)
breaks_layer schemas project Rank comp index layer =
    list_any (nat_lt greatest_rank) (layer_ranks (stack_rank project) comp.layers layer)
breaks_layer schemas project _ comp index layer = false

-- the first place where the rule is broken
abbrev pub place_of : List EffectSchema → PlainProject → Rule → Option Place
place_of schemas project rule =
    first_place (λ comp. comp.layers) (breaks_project project rule) (breaks_comp project rule) (breaks_layer schemas project rule) project.comps

-- What pre-render checks out.
use Rattle.std.specs.Prelude.{ℕ, List, map, slice_index_or, pos}
use Rattle.std.specs.List.{range_with_len}
use Rattle.geom_rect.specs.declared.rect.Rect.{Rect}
use Rattle.effect_api.specs.declared.moment.Want.{Want}
use Rattle.effect_api.specs.declared.pre_render.Checkout.{Checkout}
use Rattle.effect_api.specs.Planes.{extent_at}
use Rattle.fx_spatial.specs.Asked.{asked}

-- the want with a number
abbrev pub want_in : List Want → ℕ → Want
want_in wants k = slice_index_or wants k record { input = 0; tick = record { 0 = pos 0 } }

-- of each of the wants with the numbers below `count` the same rectangle, within its extent
abbrev pub asked_of_each : List Want → List Rect → Rect → ℕ → List Checkout
asked_of_each wants extents rect count =
    map (λ k. asked (want_in wants k) k rect (extent_at extents k)) (range_with_len 0 count)

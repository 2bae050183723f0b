-- What an effect may want and ask for, and how far it may reach.
use Rattle.std.specs.Prelude.{◌≡◌, ◌≢◌, ℕ, ◌<◌, ◌≤◌, pos, true, List, length, codes}
use Rattle.std.specs.List.{All}
use Rattle.geom_rect.specs.declared.rect.Rect.{Rect}
use Rattle.geom_rect.specs.Rect.{IsWithin, is_empty, grow_of}
use Rattle.effect_api.specs.declared.moment.Want.{Want}
use Rattle.effect_api.specs.declared.moment.Ask.{Ask}
use Rattle.project_model.specs.Effects.{DistinctTexts}
use Rattle.effect_api.specs.Fits.{IsHeld}
use Rattle.effect_api.specs.Planes.{HasSides, cover_all}

-- the names of the classes: none is that of the planes themselves, and their numbers, from 1 on, are bytes
pub record AreClassNames (names : List (List ℕ)) : Type 0 where
  pub few : length names ≤ 255
  pub distinct : DistinctTexts names
  pub none_is_plane : All (λ name. name ≢ codes "plane") names

-- an input that an effect with so many layer parameters has, at a held tick
pub record IsWant (layers base : ℕ) (want : Want) : Type 0 where
  pub input_is : want.input ≤ layers
  pub held : IsHeld base want.tick.0

pub record AreWants (layers base : ℕ) (wants : List Want) : Type 0 where
  pub few : length wants ≤ 16
  pub each : All (IsWant layers base) wants

-- a question of one of so many classes, over such an input
pub record IsAsk (classes layers base : ℕ) (ask : Ask) : Type 0 where
  pub class_low : 1 ≤ ask.class
  pub class_high : ask.class ≤ classes
  pub number : ask.ask < 16777216
  pub over : IsWant layers base ask.want

pub record AreAsks (classes layers base : ℕ) (asks : List Ask) : Type 0 where
  pub few : length asks ≤ 16
  pub each : All (IsAsk classes layers base) asks

-- an effect draws at most 1,024 points beyond what it draws from; what is empty stays near the origin
pub record IsBounds (extents : List Rect) (bounds : Rect) : Type 0 where
  pub near : IsWithin bounds (grow_of (cover_all extents) (pos 1024))
  pub empty : All HasSides extents → is_empty bounds ≡ true → HasSides bounds

use Rattle.std.proofs.Common.{◌≡◌, ℕ, refl, subst, sym}
use Rattle.std.specs.Int.{◌∣◌}
use Rattle.std.proofs.Math.Nat.{dvd_of_mod-eq-zero}
use Rattle.project_tests.proofs.times.ticks.Goals as goal

pub to_tick-requires-2-clause-divides : goal.to_tick-requires-2-clause-divides
to_tick-requires-2-clause-divides g c =
    let scale : c.time-2.result.scale ≡ 24 = cc in
    subst (λ (n : ℕ). n ∣ 30000) (sym scale) (dvd_of_mod-eq-zero 24 refl)

-- Seats and pieces that move from one list to another.
use Rattle.std.proofs.Common.{◌≡◌, ◌++◌, ◌∷◌, [], ℕ, Bool, true, false, ◌||◌, List, Option, Some, IfSome, option_to_list, Result, Ok, Err, IfOk, OnOk, IsOk, All, map, reverse, refl, sym, subst, ap, ap₂, ◌∙◌, append_assoc, length-append, arith}
use Rattle.std.proofs.lemmas.List.{length-map, get_or-map, get_or_append_left, map-append, reverse-append, reverse-reverse}
use Rattle.std.proofs.lemmas.List.Elements.{All-append, All-pop, All-push}
use Rattle.std.proofs.lemmas.List.Sorted.{All-permutation, IsPermutation-append_comm, IsPermutation-reverse}
use Rattle.frame_claims.specs.Claims.{Seat, joining}
use Rattle.frame_worker.specs.Window.{AreDrawn}
use Rattle.frame_worker.specs.declared.maker.Piece.{Piece}

-- the last of some seats moves into a job
pub moved_more : {J S : Type 0} (seat : J → S) (all before after : List S) (x : S) (jobs jobs' : List J) (job : J) →
    before ≡ after ++ x ∷ [] → jobs' ≡ jobs ++ job ∷ [] → seat job ≡ x → all ≡ before ++ reverse (map seat jobs) → all ≡ after ++ reverse (map seat jobs')
moved_more seat all before after x jobs jobs' job popped pushed same moved =
    let more : reverse (map seat jobs') ≡ x ∷ reverse (map seat jobs) =
    ap (λ js. reverse (map seat js)) pushed ∙ ap reverse (map-append seat jobs (job ∷ [])) ∙ reverse-append (map seat jobs) (seat job ∷ []) ∙ ap (λ s. s ∷ reverse (map seat jobs)) same in
    moved ∙ ap (λ xs. xs ++ reverse (map seat jobs)) popped ∙ append_assoc after (x ∷ []) (reverse (map seat jobs)) ∙ ap (λ xs. after ++ xs) (sym more)

front : {S : Type 0} (P : S → Type 0) (xs ys : List S) → All P (xs ++ ys) → All P xs
front P xs ys each place d within = subst P (get_or_append_left xs ys d place within) (each place d (omega (arith, length-append xs ys, within)))

-- a fact of all seats is one of those that are left, and of each job's
module _ {J S : Type 0} (seat : J → S) (P : S → Type 0) (all left : List S) (jobs : List J) (moved : all ≡ left ++ reverse (map seat jobs)) (each : All P all) where
  whole : All P (left ++ reverse (map seat jobs))
  whole = subst (All P) moved each

  pub of_left : All P left
  of_left = front P left (reverse (map seat jobs)) whole

  pub of_jobs : All (λ job. P (seat job)) jobs
  of_jobs place d within =
      let back = reverse (map seat jobs) in
      let last = front P back left (All-permutation P (left ++ back) (back ++ left) (IsPermutation-append_comm left back) whole) in
      let seats : All P (map seat jobs) = subst (All P) (reverse-reverse (map seat jobs)) (All-permutation P back (reverse back) (IsPermutation-reverse back) last) in
      subst P (get_or-map seat jobs place d (seat d) within) (seats place (seat d) (simp length-map within))

or_true : (a b : Bool) → b ≡ true → (a || b) ≡ true
or_true true b e = refl
or_true false b e = e

-- the opening seat has drawn what one worker more did, and knows the end as that worker does
module _ {V E D : Type 0} (opening other new : Seat) (joined : new ≡ joining other opening) where
  pub ended_more : (all : Result V E) (done : Result D E) → IfOk all (λ _. IsOk done) → OnOk done (other.ended ≡ true) → IfOk all (λ _. new.ended ≡ true)
  ended_more (Err e) done whole ended = tt
  ended_more (Ok v) (Err e) whole ended = absurd (cc)
  ended_more (Ok v) (Ok d) whole ended = ap (λ (seat : Seat). seat.ended) joined ∙ or_true opening.ended other.ended ended

  pub drawn_more : {P : Type 0} (gives : ℕ → P → Type 0) (items : V → List (Piece P)) (all so_far : Result V E) (done : Result D E) (made : List (Piece P))
      → IfOk all (λ _. IsOk so_far) → IfOk all (λ _. IsOk done) → IfOk all (λ v. IfOk so_far (λ w. items v ≡ items w ++ made))
      → IfOk so_far (λ w. AreDrawn gives opening (items w)) → OnOk done (AreDrawn gives other made)
      → IfOk all (λ v. AreDrawn gives new (items v))
  drawn_more {P} gives items (Err e) so_far done made others whole is one two = tt
  drawn_more {P} gives items (Ok v) (Err e) done made others whole is one two = absurd (cc)
  drawn_more {P} gives items (Ok v) (Ok w) (Err e) made others whole is one two = absurd (cc)
  drawn_more {P} gives items (Ok v) (Ok w) (Ok d) made others whole is one two = record {
    frames = ap (map (λ (piece : Piece P). piece.frame)) is ∙ map-append (λ (piece : Piece P). piece.frame) (items w) made ∙ ap₂ (λ x y. x ++ y) one.frames two.frames ∙ sym (ap (λ (seat : Seat). seat.draws) joined);
    each =
        let given = λ (piece : Piece P). gives piece.frame piece.made in
        subst (All given) (sym is) (All-append given (items w) made one.each two.each);
  }

-- what holds of all jobs holds of those that are left, and of the last one
pub popped : {J : Type 0} (P : J → Type 0) (before after : List J) (last : Option J) (job : J) → before ≡ after ++ option_to_list last → last ≡ Some job → All P before → All P after × P job
popped P before after last job is some each =
    let parts = All-pop P before after last is each in
    (parts.0, subst (λ o. IfSome o P) some parts.1)

-- and what holds of one more, of all with it
pub pushed : {J : Type 0} (P : J → Type 0) (before after : List J) (job : J) → after ≡ before ++ job ∷ [] → All P before → P job → All P after
pushed P before after job is each one = subst (All P) (sym is) (All-push P before job each one)

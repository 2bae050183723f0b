-- Chains of slots, over the links as a function, and what relinking makes of them.
use Rattle.std.proofs.Common.{◌≡◌, ◌≢◌, ℕ, zero, suc, List, [], ◌∷◌, ◌++◌, refl, sym, ap, ◌∙◌, subst}
use Rattle.std.specs.Prelude.{Option, Some, None, option_map, slice_get, remove, ⊤}
use Rattle.cache_table.specs.Slots.{first_in, last_in, IsFree, IsChain, end_beside}
use Rattle.cache_table.proofs.Slotted.{some_from}

-- no slot of one list is one of the other
abbrev pub AreApart : List ℕ → List ℕ → Type 0
AreApart [] ys = ⊤
AreApart (x ∷ xs) ys = IsFree x ys × AreApart xs ys

pub first-append : (xs ys : List ℕ) (after : Option ℕ) → first_in (xs ++ ys) after ≡ first_in xs (first_in ys after)
first-append [] ys after = refl
first-append (x ∷ xs) ys after = refl

pub last-append : (xs ys : List ℕ) (before : Option ℕ) → last_in (xs ++ ys) before ≡ last_in ys (last_in xs before)
last-append [] ys before = refl
last-append (x ∷ xs) ys before = last-append xs ys (Some x)

pub free-append : (k : ℕ) (xs ys : List ℕ) → IsFree k xs → IsFree k ys → IsFree k (xs ++ ys)
free-append k [] ys a b = b
free-append k (x ∷ xs) ys a b = (a.0, free-append k xs ys a.1 b)

pub free-front : (k : ℕ) (xs ys : List ℕ) → IsFree k (xs ++ ys) → IsFree k xs
free-front k [] ys free = tt
free-front k (x ∷ xs) ys free = (free.0, free-front k xs ys free.1)

pub free-back : (k : ℕ) (xs ys : List ℕ) → IsFree k (xs ++ ys) → IsFree k ys
free-back k [] ys free = free
free-back k (x ∷ xs) ys free = free-back k xs ys free.1

-- the last of some slots is not one that they have not
pub last-differs : (k x : ℕ) (xs : List ℕ) → IsFree k (x ∷ xs) → last_in xs (Some x) ≢ Some k
last-differs k x [] free e = free.0 (some_from e)
last-differs k x (y ∷ ys) free e = last-differs k y ys free.1 e

pub first-differs : (k : ℕ) (xs : List ℕ) → IsFree k xs → first_in xs None ≢ Some k
first-differs k [] free e = absurd (cc)
first-differs k (x ∷ xs) free e = free.0 (some_from e)

pub last-differs_any : (k : ℕ) (xs : List ℕ) → IsFree k xs → last_in xs None ≢ Some k
last-differs_any k [] free e = absurd (cc)
last-differs_any k (x ∷ xs) free e = last-differs k x xs free e

module _ (L M : ℕ → Option (Option ℕ × Option ℕ)) where
  -- a chain none of whose slots is relinked stays
  pub chain-stays : (before after : Option ℕ) (order : List ℕ) → ((s : ℕ) → (IsFree s order → ⊥) → M s ≡ L s) → IsChain L before order after → IsChain M before order after
  chain-stays before after [] same chain = tt
  chain-stays before after (x ∷ order) same chain =
      (same x (λ free. free.0 refl) ∙ chain.0, chain.1, chain-stays (Some x) after order (λ s not. same s (λ free. not free.1)) chain.2)

  -- a chain whose last slot has another after it
  pub chain-end : (before old new : Option ℕ) (x : ℕ) (order : List ℕ)
      → ((s : ℕ) → last_in order (Some x) ≡ Some s → M s ≡ option_map (λ links. (links.0, new)) (L s)) → ((s : ℕ) → last_in order (Some x) ≢ Some s → M s ≡ L s)
      → IsChain L before (x ∷ order) old → IsChain M before (x ∷ order) new
  chain-end before old new x [] here others chain = (here x refl ∙ ap (option_map (λ links. (links.0, new))) chain.0, chain.1, tt)
  chain-end before old new x (y ∷ order) here others chain =
      (others x (last-differs x y order chain.1) ∙ chain.0, chain.1, chain-end (Some x) old new y order here others chain.2)

  -- a chain whose first slot has another before it
  pub chain-start : (old new after : Option ℕ) (order : List ℕ)
      → ((s : ℕ) → first_in order None ≡ Some s → M s ≡ option_map (λ links. (new, links.1)) (L s)) → ((s : ℕ) → first_in order None ≢ Some s → M s ≡ L s)
      → IsChain L old order after → IsChain M new order after
  chain-start old new after [] here others chain = tt
  chain-start old new after (x ∷ order) here others chain = (
    here x refl ∙ ap (option_map (λ links. (new, links.1))) chain.0,
    chain.1,
    chain-stays (Some x) after order (λ s not. others s (λ e. not (subst (λ y. IsFree y order) (some_from e) chain.1))) chain.2,
  )

module _ (L : ℕ → Option (Option ℕ × Option ℕ)) where
  pub chain-append : (before after : Option ℕ) (xs ys : List ℕ) → AreApart xs ys → IsChain L before xs (first_in ys after) → IsChain L (last_in xs before) ys after → IsChain L before (xs ++ ys) after
  chain-append before after [] ys apart front back = back
  chain-append before after (x ∷ xs) ys apart front back = (
    front.0 ∙ ap (λ o. Some (before, o)) (sym (first-append xs ys after)),
    free-append x xs ys front.1 apart.0,
    chain-append (Some x) after xs ys apart.1 front.2 back,
  )

  pub record IsSplit (before after : Option ℕ) (xs ys : List ℕ) : Type 0 where
    pub apart : AreApart xs ys
    pub front : IsChain L before xs (first_in ys after)
    pub back : IsChain L (last_in xs before) ys after

  pub chain-split : (before after : Option ℕ) (xs ys : List ℕ) → IsChain L before (xs ++ ys) after → IsSplit before after xs ys
  chain-split before after [] ys chain = record { apart = tt; front = tt; back = chain }
  chain-split before after (x ∷ xs) ys chain =
      let rest = chain-split (Some x) after xs ys chain.2 in
      record {
        apart = (free-back x xs ys chain.1, rest.apart);
        front = (chain.0 ∙ ap (λ o. Some (before, o)) (first-append xs ys after), free-front x xs ys chain.1, rest.front);
        back = rest.back;
      }

pub apart-front : (k : ℕ) (xs ys : List ℕ) → AreApart xs (k ∷ ys) → IsFree k xs
apart-front k [] ys apart = tt
apart-front k (x ∷ xs) ys apart = ((λ e. apart.0.0 (sym e)), apart-front k xs ys apart.1)

pub apart-rest : (k : ℕ) (xs ys : List ℕ) → AreApart xs (k ∷ ys) → AreApart xs ys
apart-rest k [] ys apart = tt
apart-rest k (x ∷ xs) ys apart = (apart.0.1, apart-rest k xs ys apart.1)

pub apart-one : (k : ℕ) (xs : List ℕ) → IsFree k xs → AreApart xs (k ∷ [])
apart-one k [] free = tt
apart-one k (x ∷ xs) free = (((λ e. free.0 (sym e)), tt), apart-one k xs free.1)

-- none of some slots is that of the last of others, nor that of the first
apart-last : (k : ℕ) (xs ys : List ℕ) → AreApart xs ys → last_in xs None ≡ Some k → IsFree k ys
apart-last k [] ys apart e = absurd (cc)
apart-last k (x ∷ xs) ys apart e = by x xs apart e
  where
    by : (x : ℕ) (xs : List ℕ) → AreApart (x ∷ xs) ys → last_in xs (Some x) ≡ Some k → IsFree k ys
    by x [] apart e = subst (λ y. IsFree y ys) (some_from e) apart.0
    by x (y ∷ xs) apart e = by y xs apart.1 e

apart-first : (k : ℕ) (xs ys : List ℕ) → AreApart xs ys → first_in ys None ≡ Some k → IsFree k xs
apart-first k [] ys apart e = tt
apart-first k (x ∷ xs) [] apart e = absurd (cc)
apart-first k (x ∷ xs) (y ∷ ys) apart e = ((λ same. apart.0.0 (some_from e ∙ sym same)), apart-first k xs (y ∷ ys) apart.1 e)

-- the end of one chain and the start of another are linked, and so they are one
module _ (L M N : ℕ → Option (Option ℕ × Option ℕ)) where
  pub chain-joined : (e b : Option ℕ) (xs ys : List ℕ) → AreApart xs ys → IsChain L None xs e → IsChain L b ys None
      → ((s : ℕ) → last_in xs None ≡ Some s → M s ≡ option_map (λ links. (links.0, first_in ys None)) (L s)) → ((s : ℕ) → last_in xs None ≢ Some s → M s ≡ L s)
      → ((s : ℕ) → first_in ys None ≡ Some s → N s ≡ option_map (λ links. (last_in xs None, links.1)) (M s)) → ((s : ℕ) → first_in ys None ≢ Some s → N s ≡ M s)
      → IsChain N None (xs ++ ys) None
  chain-joined e b xs ys apart front back after others before others' =
      chain-append N None None xs ys apart
      (chain-stays M N None (first_in ys None) xs (λ s not. others' s (λ e. not (apart-first s xs ys apart e))) (by xs after others front))
      (chain-start M N b (last_in xs None) None ys before others' (chain-stays L M b None ys (λ s not. others s (λ e. not (apart-last s xs ys apart e))) back))
    where
      by : (xs : List ℕ) → ((s : ℕ) → last_in xs None ≡ Some s → M s ≡ option_map (λ links. (links.0, first_in ys None)) (L s)) → ((s : ℕ) → last_in xs None ≢ Some s → M s ≡ L s)
          → IsChain L None xs e → IsChain M None xs (first_in ys None)
      by [] after others front = tt
      by (x ∷ xs) after others front = chain-end L M None e (first_in ys None) x xs after others front

-- the ends of a chain
pub first-closed : (xs ys : List ℕ) (k : ℕ) → end_beside (last_in xs None) (first_in ys None) (first_in (xs ++ k ∷ ys) None) ≡ first_in (xs ++ ys) None
first-closed [] ys k = refl
first-closed (x ∷ xs) ys k = by xs x
  where
    by : (xs : List ℕ) (y : ℕ) → end_beside (last_in xs (Some y)) (first_in ys None) (Some x) ≡ Some x
    by [] y = refl
    by (z ∷ xs) y = by xs z

pub last-closed : (xs ys : List ℕ) (k : ℕ) → end_beside (first_in ys None) (last_in xs None) (last_in (xs ++ k ∷ ys) None) ≡ last_in (xs ++ ys) None
last-closed xs [] k = sym (last-append xs [] None)
last-closed xs (y ∷ ys) k = last-append xs (k ∷ y ∷ ys) None ∙ sym (last-append xs (y ∷ ys) None)

pub first-pushed : (xs : List ℕ) (k : ℕ) → end_beside (last_in xs None) (Some k) (first_in xs None) ≡ first_in (xs ++ k ∷ []) None
first-pushed [] k = refl
first-pushed (x ∷ xs) k = by xs x
  where
    by : (xs : List ℕ) (y : ℕ) → end_beside (last_in xs (Some y)) (Some k) (Some x) ≡ Some x
    by [] y = refl
    by (z ∷ xs) y = by xs z

-- a list about one of its items
pub record IsAbout (order : List ℕ) (place slot : ℕ) : Type 0 where
  pub front : List ℕ
  pub back : List ℕ
  pub is : order ≡ front ++ slot ∷ back
  pub rest : remove order place ≡ front ++ back

pub about : (order : List ℕ) (place slot : ℕ) → slice_get order place ≡ Some slot → IsAbout order place slot
about [] place slot at = absurd (cc)
about (x ∷ order) zero slot at = record { front = []; back = order; is = ap (λ y. y ∷ order) (some_from at); rest = refl }
about (x ∷ order) (suc place) slot at =
    let it = about order place slot at in
    record { front = x ∷ it.front; back = it.back; is = ap (λ l. x ∷ l) it.is; rest = ap (λ l. x ∷ l) it.rest }

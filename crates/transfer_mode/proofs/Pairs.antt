-- Two pixels at a time: from lanes to pixels.
use Rattle.std.proofs.Common.{◌≡◌, ℕ, ◌+◌, ◌-◌, ◌*◌, ◌/◌, ◌%◌, ◌<◌, ◌≤◌, List, [], ◌∷◌, ◌++◌, map, ap, ap₂, sym, subst, ◌∙◌, arith}
use lib.Lanes.{zip2, Each1, pick_l}
use Rattle.std.proofs.Math.Nat.{mul-le-mul_left, mul_comm, mod-eq_of_lt, add-mod_left, add-mod-mod, mod-lt}
use Rattle.argb_pixel.specs.Pixel.{Argb, IsPremultiplied, each_channel, mul_of, luma_of, rounded}
use Rattle.transfer_mode.specs.Lanes.{Lane, IsLane, channels, fours}
use Rattle.transfer_mode.specs.Both.{normal}
use Rattle.transfer_mode.specs.Transfer.{mixed}
use Rattle.transfer_mode.proofs.Over.{over_premultiplied, normal-over}
use Rattle.std.proofs.lemmas.Simd.{zip2_of_maps}
use Rattle.transfer_mode.proofs.Eights.{map_where}
use Rattle.transfer_mode.proofs.Mixing.{plus, less}

-- ---- the destination, as much of it as a part

abbrev products : Argb → ℕ → Argb
products q k = each_channel (λ c. c * k) q

product_fits : (most x k : ℕ) → x ≤ most → k ≤ most → x * k ≤ most * most
product_fits most x k hx hk = omega (arith, mul-le-mul_left {m = x} {n = most} k hx, mul-le-mul_left {m = k} {n = most} most hk, mul_comm most k)

product_is : (most size x k : ℕ) → most * most < size → x ≤ most → k ≤ most → x * k % size ≡ x * k
product_is most size x k small hx hk = mod-eq_of_lt (omega (arith, product_fits most x k hx hk, small))

same_channels : (x y : Argb) (a a' r r' g g' b b' : ℕ) (rest : List ℕ) → a ≡ a' → r ≡ r' → g ≡ g' → b ≡ b' → a ∷ r ∷ g ∷ b ∷ rest ≡ a' ∷ r' ∷ g' ∷ b' ∷ rest
same_channels x y a a' r r' g g' b b' rest ea er eg eb = ap₂ (λ (u : ℕ) (v : List ℕ). u ∷ v) ea (ap₂ (λ (u : ℕ) (v : List ℕ). u ∷ v) er (ap₂ (λ (u : ℕ) (v : List ℕ). u ∷ v) eg (ap (λ u. u ∷ rest) eb)))

channel_products : (most size k : ℕ) (q : Argb) → most * most < size → IsPremultiplied most q → k ≤ most
    → zip2 (λ x y. x * y % size) (channels q) (k ∷ k ∷ k ∷ k ∷ []) ≡ channels (products q k)
channel_products most size k q small fits le =
    same_channels q q _ _ _ _ _ _ _ _ [] (product_is most size q.a k small fits.alpha le)
    (product_is most size q.r k small (omega (arith, fits.red, fits.alpha)) le)
    (product_is most size q.g k small (omega (arith, fits.green, fits.alpha)) le)
    (product_is most size q.b k small (omega (arith, fits.blue, fits.alpha)) le)

products_fit : (most k k' : ℕ) (q q' : Argb) → IsPremultiplied most q → IsPremultiplied most q' → k ≤ most → k' ≤ most
    → Each1 (λ x. x ≤ most * most) (channels (products q k) ++ channels (products q' k'))
products_fit most k k' q q' h h' le le' = (
  product_fits most q.a k h.alpha le,
  (
    product_fits most q.r k (omega (arith, h.red, h.alpha)) le,
    (
      product_fits most q.g k (omega (arith, h.green, h.alpha)) le,
      (
        product_fits most q.b k (omega (arith, h.blue, h.alpha)) le,
        (
          product_fits most q'.a k' h'.alpha le',
          (
            product_fits most q'.r k' (omega (arith, h'.red, h'.alpha)) le',
            (product_fits most q'.g k' (omega (arith, h'.green, h'.alpha)) le', (product_fits most q'.b k' (omega (arith, h'.blue, h'.alpha)) le', tt)),
          ),
        ),
      ),
    ),
  ),
)

pub part_of_pair : (most whole size k k' : ℕ) (q q' : Argb) (d part lanes result : List ℕ) → most ≡ whole → most * most < size
    → IsPremultiplied whole q → IsPremultiplied whole q' → k ≤ whole → k' ≤ whole → d ≡ channels q ++ channels q' → part ≡ fours k k'
    → lanes ≡ zip2 (λ x y. x * y % size) d part → (Each1 (λ x. x ≤ most * most) lanes → result ≡ map (λ x. rounded x most) lanes)
    → result ≡ channels (mul_of whole q k) ++ channels (mul_of whole q' k')
part_of_pair most whole size k k' q q' d part lanes result e small h h' le le' ed ep el er =
    let at : (m : ℕ) → m ≡ most → IsPremultiplied m q → IsPremultiplied m q' → k ≤ m → k' ≤ m → result ≡ channels (mul_of m q k) ++ channels (mul_of m q' k') = λ m same g g' lt lt'.
    let f : IsPremultiplied most q = subst (λ (n : ℕ). IsPremultiplied n q) same g in
    let f' : IsPremultiplied most q' = subst (λ (n : ℕ). IsPremultiplied n q') same g' in
    let few : k ≤ most = omega (arith, same, lt) in
    let few' : k' ≤ most = omega (arith, same, lt') in
    let is : lanes ≡ channels (products q k) ++ channels (products q' k') =
    el ∙ ap₂ (zip2 (λ x y. x * y % size)) ed ep
    ∙ ap₂ (λ (u v : List ℕ). u ++ v) (channel_products most size k q small f few) (channel_products most size k' q' small f' few') in
    er (subst (Each1 (λ x. x ≤ most * most)) (sym is) (products_fit most k k' q q' f f' few few')) ∙ ap (map (λ x. rounded x most)) is
    ∙ ap (λ n. channels (mul_of n q k) ++ channels (mul_of n q' k')) (sym same) in
    at whole (sym e) h h' le le'

-- what alphas leave
pub left_of_pair : (most whole k k' : ℕ) (part left : List ℕ) → most ≡ whole → k ≤ whole → k' ≤ whole → part ≡ fours k k'
    → (Each1 (λ x. x ≤ most) part → left ≡ map (λ x. most - x) part) → left ≡ fours (whole - k) (whole - k')
left_of_pair most whole k k' part left e le le' ep el =
    let few : k ≤ most = omega (arith, e, le) in
    let few' : k' ≤ most = omega (arith, e, le') in
    let all : Each1 (λ x. x ≤ most) (fours k k') = (few, (few, (few, (few, (few', (few', (few', (few', tt)))))))) in
    el (subst (Each1 (λ x. x ≤ most)) (sym ep) all) ∙ ap (map (λ x. most - x)) ep ∙ ap (λ n. fours (n - k) (n - k')) e

-- ---- Normal mode

over_channels : (whole : ℕ) (p q : Argb) → 0 < whole → whole ≤ 32768 → IsPremultiplied whole p → IsPremultiplied whole q
    → zip2 (λ x y. (x + y) % 65536) (channels p) (channels (mul_of whole q (whole - p.a))) ≡ channels (mixed whole normal p q)
over_channels whole p q pos le h k =
    let fits = over_premultiplied whole p q pos h k in
    same_channels p q _ _ _ _ _ _ _ _ [] (mod-eq_of_lt (omega (arith, fits.alpha, le))) (mod-eq_of_lt (omega (arith, fits.red, fits.alpha, le)))
    (mod-eq_of_lt (omega (arith, fits.green, fits.alpha, le))) (mod-eq_of_lt (omega (arith, fits.blue, fits.alpha, le)))
    ∙ ap channels (normal-over whole p q pos k)

pub over_pair : (whole : ℕ) (p p' q q' : Argb) (s part : List ℕ) → 0 < whole → whole ≤ 32768 → IsPremultiplied whole p → IsPremultiplied whole p'
    → IsPremultiplied whole q → IsPremultiplied whole q' → s ≡ channels p ++ channels p'
    → part ≡ channels (mul_of whole q (whole - p.a)) ++ channels (mul_of whole q' (whole - p'.a))
    → zip2 (λ x y. (x + y) % 65536) s part ≡ channels (mixed whole normal p q) ++ channels (mixed whole normal p' q')
over_pair whole p p' q q' s part pos le h h' k k' es ep =
    ap₂ (zip2 (λ x y. (x + y) % 65536)) es ep
    ∙ ap₂ (λ (u v : List ℕ). u ++ v) (over_channels whole p q pos le h k) (over_channels whole p' q' pos le h' k')

-- premultiplied under a greater value too
pub deeper : (most : ℕ) (p : Argb) → most ≤ 32768 → IsPremultiplied most p → IsPremultiplied 32768 p
deeper most p le h = record { alpha = omega (arith, h.alpha, le); red = h.red; green = h.green; blue = h.blue }

-- ---- brightness

-- the sum of four parts, in each of four orders
abbrev weighed : Argb → ℕ
weighed p = 77 * p.r + 150 * p.g + 29 * p.b

abbrev sum_of : ℕ → ℕ → ℕ
sum_of x y = (x + y) % 4294967296

abbrev weights : List ℕ
weights = 0 ∷ 77 ∷ 150 ∷ 29 ∷ []

abbrev weigh : Argb → List ℕ
weigh p =
    let a = p.a * 0 % 4294967296 in
    let r = p.r * 77 % 4294967296 in
    let g = p.g * 150 % 4294967296 in
    let b = p.b * 29 % 4294967296 in
    sum_of (sum_of a r) (sum_of g b) ∷ sum_of (sum_of r a) (sum_of b g) ∷ sum_of (sum_of g b) (sum_of a r) ∷ sum_of (sum_of b g) (sum_of r a) ∷ []

weigh_is : (p : Argb) → IsPremultiplied 32768 p → weigh p ≡ weighed p ∷ weighed p ∷ weighed p ∷ weighed p ∷ []
weigh_is p h =
    let r : p.r ≤ 32768 = omega (arith, h.red, h.alpha) in
    let g : p.g ≤ 32768 = omega (arith, h.green, h.alpha) in
    let b : p.b ≤ 32768 = omega (arith, h.blue, h.alpha) in
    same_channels p p _ _ _ _ _ _ _ _ [] (omega (arith, r, g, b)) (omega (arith, r, g, b)) (omega (arith, r, g, b)) (omega (arith, r, g, b))

weighed_fits : (p : Argb) → IsPremultiplied 32768 p → weighed p ≤ 8388608
weighed_fits p h = omega (arith, h.red, h.green, h.blue, h.alpha)

pub luma_of_pair : (p q : Argb) (row parts near pairs far result : List ℕ) → IsPremultiplied 32768 p → IsPremultiplied 32768 q → row ≡ channels p ++ channels q
    → parts ≡ zip2 (λ x y. x * y % 4294967296) (map (λ x. x) row) (0 ∷ 77 ∷ 150 ∷ 29 ∷ 0 ∷ 77 ∷ 150 ∷ 29 ∷ [])
    → near ≡ pick_l 0 parts (1 ∷ 0 ∷ 3 ∷ 2 ∷ 5 ∷ 4 ∷ 7 ∷ 6 ∷ []) → pairs ≡ zip2 sum_of parts near
    → far ≡ pick_l 0 pairs (2 ∷ 3 ∷ 0 ∷ 1 ∷ 6 ∷ 7 ∷ 4 ∷ 5 ∷ [])
    → (Each1 (λ x. x ≤ 8388608) (zip2 sum_of pairs far) → result ≡ map (λ x. (x + 128) / 256) (zip2 sum_of pairs far))
    → result ≡ fours (luma_of p) (luma_of q)
luma_of_pair p q row parts near pairs far result h k er eparts enear epairs efar e =
    let first : parts ≡ zip2 (λ x y. x * y % 4294967296) (channels p ++ channels q) (weights ++ weights) =
    eparts ∙ ap (λ v. zip2 (λ x y. x * y % 4294967296) (map (λ x. x) v) (weights ++ weights)) er in
    let second : pairs ≡ (let v = zip2 (λ x y. x * y % 4294967296) (channels p ++ channels q) (weights ++ weights) in
    zip2 sum_of v (pick_l 0 v (1 ∷ 0 ∷ 3 ∷ 2 ∷ 5 ∷ 4 ∷ 7 ∷ 6 ∷ []))) =
    epairs ∙ ap (zip2 sum_of parts) enear ∙ ap (λ v. zip2 sum_of v (pick_l 0 v (1 ∷ 0 ∷ 3 ∷ 2 ∷ 5 ∷ 4 ∷ 7 ∷ 6 ∷ []))) first in
    let third : zip2 sum_of pairs far ≡ weigh p ++ weigh q =
    ap (zip2 sum_of pairs) efar ∙ ap (λ v. zip2 sum_of v (pick_l 0 v (2 ∷ 3 ∷ 0 ∷ 1 ∷ 6 ∷ 7 ∷ 4 ∷ 5 ∷ []))) second in
    let whole : zip2 sum_of pairs far ≡ fours (weighed p) (weighed q) = third ∙ ap₂ (λ (u v : List ℕ). u ++ v) (weigh_is p h) (weigh_is q k) in
    let f = weighed_fits p h in
    let f' = weighed_fits q k in
    let fits : Each1 (λ x. x ≤ 8388608) (fours (weighed p) (weighed q)) = (f, (f, (f, (f, (f', (f', (f', (f', tt)))))))) in
    e (subst (Each1 (λ x. x ≤ 8388608)) (sym whole) fits) ∙ ap (map (λ x. (x + 128) / 256)) whole

-- ---- the modes that mix both

-- what is taken from a sum modulo size gives the rest back
undo : (size all k v : ℕ) → v < size → k < size → (v + k) % size ≡ all % size → (all % size + (size - k)) % size ≡ v
undo size all k v hv hk e =
    let turned : (v + k) % size + (size - k) ≡ (size - k) + (v + k) % size = omega arith in
    let whole : (size - k) + (v + k) ≡ size + v = omega (arith, hk) in
    ap (λ z. (z + (size - k)) % size) (sym e) ∙ ap (λ z. z % size) turned ∙ add-mod-mod (size - k) (v + k) size ∙ ap (λ z. z % size) whole
    ∙ add-mod_left size v ∙ mod-eq_of_lt hv

-- the same where it is a sum less another number, modulo size
undo_sum : (size all x b v : ℕ) → v < size → b < size → v + x ≡ all + b → (all % size + (size - (x % size + (size - b)) % size)) % size ≡ v
undo_sum size all x b v hv hb e =
    let k = (x % size + (size - b)) % size in
    let turned : v + (x % size + (size - b)) ≡ (v + (size - b)) + x % size = omega arith in
    let whole : (v + (size - b)) + x ≡ size + all = omega (arith, e, hb) in
    undo size all k v hv (mod-lt (x % size + (size - b)) (omega (arith, hb)))
    (add-mod-mod v (x % size + (size - b)) size ∙ ap (λ z. z % size) turned ∙ add-mod-mod (v + (size - b)) x size ∙ ap (λ z. z % size) whole ∙ add-mod_left size all)

split : (s m k d : ℕ) → m ≡ k + d → s * k + s * d ≡ s * m
split s m k d e = omega (arith, ap (λ t. s * t) e)

-- what is divided by the greatest value
abbrev number : ℕ → ℕ → ℕ → ℕ → ℕ → ℕ → ℕ
number most sa da s d both = s * (most - da) + d * (most - sa) + both

number_fits : (m sa da s d b : ℕ) → sa ≤ m → da ≤ m → s ≤ sa → d ≤ da → b ≤ sa * da → number m sa da s d b ≤ m * m
number_fits m sa da s d b hsa hda hs hd hb =
    let u = m - sa in
    let v = m - da in
    let es : sa + u ≡ m = omega (arith, hsa) in
    let ed : da + v ≡ m = omega (arith, hda) in
    let wide : (sa + u) * (da + v) ≡ m * m = ap₂ (λ x y. x * y) es ed in
    let parts : sa * v + da * u + sa * da ≤ (sa + u) * (da + v) = omega arith in
    omega (arith, wide, parts, hb, mul-le-mul_left v hs, mul-le-mul_left u hd)

number_is : (m sa da s d b : ℕ) → sa ≤ m → da ≤ m → number m sa da s d b + (s * da + d * sa) ≡ (s + d) * m + b
number_is m sa da s d b hsa hda =
    omega (arith, split s m (m - da) da (omega (arith, hda)), split d m (m - sa) sa (omega (arith, hsa)))

alpha_is : (m sa da : ℕ) → sa ≤ m → da ≤ m → number m sa da sa da (sa * da) + sa * da ≡ (sa + da) * m
alpha_is m sa da hsa hda = omega (arith, number_is m sa da sa da (sa * da) hsa hda, mul_comm sa da)

abbrev lanes_of : Argb → Argb → List Lane
lanes_of p q =
    let lane : ℕ → ℕ → Lane = λ s d. record { sa = p.a; da = q.a; s = s; d = d } in
    lane p.a q.a ∷ lane p.r q.r ∷ lane p.g q.g ∷ lane p.b q.b ∷ []

lanes_fit : (most : ℕ) (p p' q q' : Argb) → IsPremultiplied most p → IsPremultiplied most p' → IsPremultiplied most q → IsPremultiplied most q'
    → Each1 (IsLane most) (lanes_of p q ++ lanes_of p' q')
lanes_fit most p p' q q' h h' k k' =
    let lane : (p q : Argb) → IsPremultiplied most p → IsPremultiplied most q → (s d : ℕ) → s ≤ p.a → d ≤ q.a → IsLane most record { sa = p.a; da = q.a; s = s; d = d } =
    λ p q h k s d hs hd. record { source_alpha = h.alpha; alpha = k.alpha; source = hs; destination = hd } in (
      lane p q h k p.a q.a (omega arith) (omega arith),
      (
        lane p q h k p.r q.r h.red k.red,
        (
          lane p q h k p.g q.g h.green k.green,
          (
            lane p q h k p.b q.b h.blue k.blue,
            (
              lane p' q' h' k' p'.a q'.a (omega arith) (omega arith),
              (
                lane p' q' h' k' p'.r q'.r h'.red k'.red,
                (
                  lane p' q' h' k' p'.g q'.g h'.green k'.green,
                  (lane p' q' h' k' p'.b q'.b h'.blue k'.blue, tt),
                ),
              ),
            ),
          ),
        ),
      ),
    )

-- the products of two numbers of each lane
lane_products : (most size : ℕ) (f g : Lane → ℕ) (ls : List Lane) {xs ys : List ℕ} → most * most < size → ((l : Lane) → IsLane most l → f l ≤ most)
    → ((l : Lane) → IsLane most l → g l ≤ most) → Each1 (IsLane most) ls → xs ≡ map f ls → ys ≡ map g ls
    → zip2 (λ x y. x * y % size) xs ys ≡ map (λ l. f l * g l) ls
lane_products most size f g ls small hf hg fits ex ey =
    zip2_of_maps (λ x y. x * y % size) f g ls ex ey
    ∙ map_where (IsLane most) (λ l. f l * g l % size) (λ l. f l * g l) (λ l h. product_is most size (f l) (g l) small (hf l h) (hg l h)) ls fits

-- one pixel's numbers
abbrev numbers : ℕ → (ℕ → ℕ → ℕ → ℕ → ℕ) → Argb → Argb → Argb
numbers most both p q = record {
  a = number most p.a q.a p.a q.a (p.a * q.a);
  r = number most p.a q.a p.r q.r (both p.a q.a p.r q.r);
  g = number most p.a q.a p.g q.g (both p.a q.a p.g q.g);
  b = number most p.a q.a p.b q.b (both p.a q.a p.b q.b);
}

abbrev IsBounded : ℕ → (ℕ → ℕ → ℕ → ℕ → ℕ) → Type 0
IsBounded most both = (l : Lane) → IsLane most l → both l.sa l.da l.s l.d ≤ l.sa * l.da

abbrev lessened : ℕ → ℕ → (ℕ → ℕ → ℕ → ℕ → ℕ) → Argb → Argb → List ℕ
lessened most size both p q =
    let colour : ℕ → ℕ → ℕ = λ s d. less size ((s + d) * most % size) (less size (plus size (s * q.a) (d * p.a)) (both p.a q.a s d)) in
    less size ((p.a + q.a) * most % size) (p.a * q.a) ∷ colour p.r q.r ∷ colour p.g q.g ∷ colour p.b q.b ∷ []

lessened_is : (most size : ℕ) (both : ℕ → ℕ → ℕ → ℕ → ℕ) (p q : Argb) → most * most < size → IsBounded most both → IsPremultiplied most p → IsPremultiplied most q
    → lessened most size both p q ≡ channels (numbers most both p q)
lessened_is most size both p q small bound h k =
    let of : (s d b : ℕ) → s ≤ p.a → d ≤ q.a → b ≤ p.a * q.a → number most p.a q.a s d b < size = λ s d b hs hd hb.
    omega (arith, number_fits most p.a q.a s d b h.alpha k.alpha hs hd hb, small) in
    let all : p.a * q.a < size = omega (arith, product_fits most p.a q.a h.alpha k.alpha, small) in
    let colour : (s d : ℕ) → s ≤ p.a → d ≤ q.a
    → less size ((s + d) * most % size) (less size (plus size (s * q.a) (d * p.a)) (both p.a q.a s d)) ≡ number most p.a q.a s d (both p.a q.a s d) = λ s d hs hd.
    let b = bound record { sa = p.a; da = q.a; s = s; d = d } record { source_alpha = h.alpha; alpha = k.alpha; source = hs; destination = hd } in
    undo_sum size ((s + d) * most) (s * q.a + d * p.a) (both p.a q.a s d) (number most p.a q.a s d (both p.a q.a s d)) (of s d (both p.a q.a s d) hs hd b)
    (omega (arith, b, all)) (number_is most p.a q.a s d (both p.a q.a s d) h.alpha k.alpha) in
    same_channels p q _ _ _ _ _ _ _ _ []
    (undo size ((p.a + q.a) * most) (p.a * q.a) (number most p.a q.a p.a q.a (p.a * q.a)) (of p.a q.a (p.a * q.a) (omega arith) (omega arith) (omega arith)) all
    (ap (λ z. z % size) (alpha_is most p.a q.a h.alpha k.alpha)))
    (colour p.r q.r h.red k.red) (colour p.g q.g h.green k.green) (colour p.b q.b h.blue k.blue)

numbers_fit : (most : ℕ) (both : ℕ → ℕ → ℕ → ℕ → ℕ) (p p' q q' : Argb) → IsBounded most both → IsPremultiplied most p → IsPremultiplied most p' → IsPremultiplied most q
    → IsPremultiplied most q' → Each1 (λ x. x ≤ most * most) (channels (numbers most both p q) ++ channels (numbers most both p' q'))
numbers_fit most both p p' q q' bound h h' k k' =
    let alpha : (p q : Argb) → IsPremultiplied most p → IsPremultiplied most q → number most p.a q.a p.a q.a (p.a * q.a) ≤ most * most = λ p q h k.
    number_fits most p.a q.a p.a q.a (p.a * q.a) h.alpha k.alpha (omega arith) (omega arith) (omega arith) in
    let colour : (p q : Argb) → IsPremultiplied most p → IsPremultiplied most q → (s d : ℕ) → s ≤ p.a → d ≤ q.a → number most p.a q.a s d (both p.a q.a s d) ≤ most * most =
    λ p q h k s d hs hd. number_fits most p.a q.a s d (both p.a q.a s d) h.alpha k.alpha hs hd
    (bound record { sa = p.a; da = q.a; s = s; d = d } record { source_alpha = h.alpha; alpha = k.alpha; source = hs; destination = hd }) in (
      alpha p q h k,
      (
        colour p q h k p.r q.r h.red k.red,
        (
          colour p q h k p.g q.g h.green k.green,
          (
            colour p q h k p.b q.b h.blue k.blue,
            (alpha p' q' h' k', (colour p' q' h' k' p'.r q'.r h'.red k'.red, (colour p' q' h' k' p'.g q'.g h'.green k'.green, (colour p' q' h' k' p'.b q'.b h'.blue k'.blue, tt)))),
          ),
        ),
      ),
    )

-- the lists that the steps leave
pub record Steps (most size : ℕ) (f : ℕ → ℕ → ℕ → ℕ → ℕ) (s d sa da all s_da d_sa s_d both sum kept twice scaled rest result : List ℕ) : Type 0 where
  pub sa_is : sa ≡ pick_l 0 s (0 ∷ 0 ∷ 0 ∷ 0 ∷ 4 ∷ 4 ∷ 4 ∷ 4 ∷ [])
  pub da_is : da ≡ pick_l 0 d (0 ∷ 0 ∷ 0 ∷ 0 ∷ 4 ∷ 4 ∷ 4 ∷ 4 ∷ [])
  pub all_is : all ≡ zip2 (λ x y. x * y % size) sa da
  pub s_da_is : s_da ≡ zip2 (λ x y. x * y % size) s da
  pub d_sa_is : d_sa ≡ zip2 (λ x y. x * y % size) d sa
  pub s_d_is : s_d ≡ zip2 (λ x y. x * y % size) s d
  pub both_is : (ls : List Lane) → Each1 (IsLane most) ls → all ≡ map (λ l. l.sa * l.da) ls → s_da ≡ map (λ l. l.s * l.da) ls → d_sa ≡ map (λ l. l.d * l.sa) ls
      → s_d ≡ map (λ l. l.s * l.d) ls → both ≡ map (λ l. f l.sa l.da l.s l.d) ls
  pub sum_is : sum ≡ zip2 (plus size) s_da d_sa
  pub kept_is : kept ≡ zip2 (less size) sum both
  pub twice_is : twice ≡ pick_l 0 (all ++ kept) (0 ∷ 9 ∷ 10 ∷ 11 ∷ 4 ∷ 13 ∷ 14 ∷ 15 ∷ [])
  pub scaled_is : scaled ≡ zip2 (λ x y. (x + y) * most % size) s d
  pub rest_is : rest ≡ zip2 (less size) scaled twice
  pub result_is : Each1 (λ x. x ≤ most * most) rest → result ≡ map (λ x. rounded x most) rest

steps_end : (most size : ℕ) (f : ℕ → ℕ → ℕ → ℕ → ℕ) (s d sa da all s_da d_sa s_d both sum kept twice scaled rest result : List ℕ) (p p' q q' : Argb)
    → Steps most size f s d sa da all s_da d_sa s_d both sum kept twice scaled rest result → most * most < size → IsBounded most f
    → IsPremultiplied most p → IsPremultiplied most p' → IsPremultiplied most q → IsPremultiplied most q' → s ≡ channels p ++ channels p' → d ≡ channels q ++ channels q'
    → result ≡ channels (mixed most f p q) ++ channels (mixed most f p' q')
steps_end most size f s d sa da all s_da d_sa s_d both sum kept twice scaled rest result p p' q q' t small bound h h' k k' es ed =
    let ls = lanes_of p q ++ lanes_of p' q' in
    let fits = lanes_fit most p p' q q' h h' k k' in
    let of_s : s ≡ map (λ (l : Lane). l.s) ls = es in
    let of_d : d ≡ map (λ (l : Lane). l.d) ls = ed in
    let of_sa : sa ≡ map (λ (l : Lane). l.sa) ls = t.sa_is ∙ ap (λ v. pick_l 0 v (0 ∷ 0 ∷ 0 ∷ 0 ∷ 4 ∷ 4 ∷ 4 ∷ 4 ∷ [])) es in
    let of_da : da ≡ map (λ (l : Lane). l.da) ls = t.da_is ∙ ap (λ v. pick_l 0 v (0 ∷ 0 ∷ 0 ∷ 0 ∷ 4 ∷ 4 ∷ 4 ∷ 4 ∷ [])) ed in
    let few_s : (l : Lane) → IsLane most l → l.s ≤ most = λ l h. omega (arith, h.source, h.source_alpha) in
    let few_d : (l : Lane) → IsLane most l → l.d ≤ most = λ l h. omega (arith, h.destination, h.alpha) in
    let few_sa : (l : Lane) → IsLane most l → l.sa ≤ most = λ l h. h.source_alpha in
    let few_da : (l : Lane) → IsLane most l → l.da ≤ most = λ l h. h.alpha in
    let of_all : all ≡ map (λ l. l.sa * l.da) ls = t.all_is ∙ lane_products most size (λ l. l.sa) (λ l. l.da) ls small few_sa few_da fits of_sa of_da in
    let of_s_da : s_da ≡ map (λ l. l.s * l.da) ls = t.s_da_is ∙ lane_products most size (λ l. l.s) (λ l. l.da) ls small few_s few_da fits of_s of_da in
    let of_d_sa : d_sa ≡ map (λ l. l.d * l.sa) ls = t.d_sa_is ∙ lane_products most size (λ l. l.d) (λ l. l.sa) ls small few_d few_sa fits of_d of_sa in
    let of_s_d : s_d ≡ map (λ l. l.s * l.d) ls = t.s_d_is ∙ lane_products most size (λ l. l.s) (λ l. l.d) ls small few_s few_d fits of_s of_d in
    let of_both = t.both_is ls fits of_all of_s_da of_d_sa of_s_d in
    let of_sum : sum ≡ map (λ l. plus size (l.s * l.da) (l.d * l.sa)) ls = t.sum_is ∙ zip2_of_maps (plus size) (λ l. l.s * l.da) (λ l. l.d * l.sa) ls of_s_da of_d_sa in
    let of_kept : kept ≡ map (λ l. less size (plus size (l.s * l.da) (l.d * l.sa)) (f l.sa l.da l.s l.d)) ls =
    t.kept_is ∙ zip2_of_maps (less size) (λ l. plus size (l.s * l.da) (l.d * l.sa)) (λ l. f l.sa l.da l.s l.d) ls of_sum of_both in
    let of_twice = t.twice_is ∙ ap₂ (λ u v. pick_l 0 (u ++ v) (0 ∷ 9 ∷ 10 ∷ 11 ∷ 4 ∷ 13 ∷ 14 ∷ 15 ∷ [])) of_all of_kept in
    let of_scaled = t.scaled_is ∙ ap₂ (zip2 (λ x y. (x + y) * most % size)) es ed in
    let of_rest : rest ≡ lessened most size f p q ++ lessened most size f p' q' = t.rest_is ∙ ap₂ (zip2 (less size)) of_scaled of_twice in
    let is : rest ≡ channels (numbers most f p q) ++ channels (numbers most f p' q') =
    of_rest ∙ ap₂ (λ (u v : List ℕ). u ++ v) (lessened_is most size f p q small bound h k) (lessened_is most size f p' q' small bound h' k') in
    t.result_is (subst (Each1 (λ x. x ≤ most * most)) (sym is) (numbers_fit most f p p' q q' bound h h' k k')) ∙ ap (map (λ x. rounded x most)) is

pub steps_of_pair : (most whole size : ℕ) (f : ℕ → ℕ → ℕ → ℕ → ℕ) (s d sa da all s_da d_sa s_d both sum kept twice scaled rest result : List ℕ) (p p' q q' : Argb)
    → most ≡ whole → Steps most size f s d sa da all s_da d_sa s_d both sum kept twice scaled rest result → most * most < size → IsBounded most f
    → IsPremultiplied whole p → IsPremultiplied whole p' → IsPremultiplied whole q → IsPremultiplied whole q' → s ≡ channels p ++ channels p' → d ≡ channels q ++ channels q'
    → result ≡ channels (mixed whole f p q) ++ channels (mixed whole f p' q')
steps_of_pair most whole size f s d sa da all s_da d_sa s_d both sum kept twice scaled rest result p p' q q' e t small bound h h' k k' es ed =
    let at : (p : Argb) → IsPremultiplied whole p → IsPremultiplied most p = λ p h. subst (λ (n : ℕ). IsPremultiplied n p) (sym e) h in
    steps_end most size f s d sa da all s_da d_sa s_d both sum kept twice scaled rest result p p' q q' t small bound (at p h) (at p' h') (at q k) (at q' k') es ed
    ∙ ap (λ n. channels (mixed n f p q) ++ channels (mixed n f p' q')) e

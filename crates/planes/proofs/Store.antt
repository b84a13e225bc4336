-- Where the bits of pixels stand, and what storing a pixel changes.
use Rattle.std.proofs.Common.{◌≡◌, ℕ, zero, suc, ◌≤◌, ◌+◌, ◌*◌, ◌/◌, ◌%◌, ◌^◌, ◌<◌, ◌≢◌, mul_comm, List, length, get_or, set, refl, sym, subst, ap, ◌∙◌, ⊎_elim, add-mul, mod-eq_of_lt, arith}
use lib.Bits.{bit_and}
use Rattle.std.proofs.lemmas.Bool.{cases_eq}
use Rattle.std.proofs.lemmas.Bool.Decides.{nat_tests}
use Rattle.std.proofs.lemmas.List.{length-set, get_or-set_same, get_or-set_other}
use Rattle.std.proofs.lemmas.Nat.{div-mul-add, mod-mul-add, div_below, mul-add-lt}
use Rattle.std.proofs.lemmas.Nat.Bits.{bit_at-lt, shr_and_one}
use Rattle.raster.specs.Rules.{bit}
use Rattle.raster.specs.Picture.{painted, with_pixel}
use Rattle.raster.specs.declared.size.Size.{Size}
use Rattle.raster.proofs.Digits.{total_alike, total_more, bits_all}
use Rattle.raster.proofs.Paints.{same_picture}
use Rattle.planes.specs.Layout.{stride, word_of, bit_of, pixel, laid_out, Carried, Kept}

-- the words of pixels

pub by_rows : (w h j x y : ℕ) → word_of w h j x y ≡ (j * h + y) * stride w + x / 32
unfolding word_of
by_rows w h j x y = ap (λ n. n + x / 32) (sym (add-mul (j * h) y (stride w)))

-- a word of a pixel is one that the list has
pub word_below : (n : ℕ) (s : Size) (j x y : ℕ) → Carried n s → j < s.depth → x < s.width → y < s.height → word_of s.width s.height j x y < n
word_below n s j x y carried lj lx ly =
    let a : j * s.height + y < s.depth * s.height = omega (arith, mul-add-lt j s.height y s.depth lj ly, mul_comm s.height s.depth) in
    let c : x / 32 < stride s.width = div_below x 32 (stride s.width) (omega arith) (omega arith) in
    omega (
      arith,
      by_rows s.width s.height j x y,
      mul-add-lt (j * s.height + y) (stride s.width) (x / 32) (s.depth * s.height) a c,
      mul_comm (stride s.width) (s.depth * s.height),
      carried,
    )

-- so is one by the size that the planes still have
pub word_there : (n i : ℕ) (s now : Size) (j x y : ℕ) → now ≡ s → Carried n now → i ≡ word_of s.width s.height j x y → j < s.depth → x < s.width → y < s.height → i < n
word_there n i s now j x y same carried e lj lx ly = omega (arith, e, word_below n s j x y (subst (λ z. Carried n z) same carried) lj lx ly)

-- a plane is no longer than the list
pub plane_below : (n : ℕ) (s : Size) → Carried n s → s.height * stride s.width ≤ n
plane_below n s carried = omega (arith, most s.depth s.height (stride s.width) (omega arith), carried)
  where
    most : (d h w : ℕ) → 1 ≤ d → h * w ≤ d * h * w
    most zero h w l = absurd (omega arith)
    most (suc d) h w l = grind arith

-- the word of the first plane
pub word_first : (w h x y : ℕ) → y * stride w + x / 32 ≡ word_of w h 0 x y
unfolding word_of
word_first w h x y = grind arith

-- the word of the next plane
pub word_next : (w h j x y : ℕ) → word_of w h j x y + h * stride w ≡ word_of w h (j + 1) x y
unfolding word_of
word_next w h j x y = grind arith

-- the parts of a word's index: its plane, its row, and its place in the row
pub word_parts : (w h j x y i : ℕ) → x < w → y < h → i ≡ word_of w h j x y
    → (i / stride w / h ≡ j) × (i / stride w % h ≡ y) × (i % stride w ≡ x / 32)
word_parts w h j x y i lx ly e =
    let c : x / 32 < stride w = div_below x 32 (stride w) (omega arith) (omega arith) in
    let e' : i ≡ (j * h + y) * stride w + x / 32 = e ∙ by_rows w h j x y in
    let row : i / stride w ≡ j * h + y = rw e' (div-mul-add (j * h + y) (stride w) (x / 32) c) in
    (rw row (div-mul-add j h y ly), rw row (mod-mul-add j h y ly), rw e' (mod-mul-add (j * h + y) (stride w) (x / 32) c))

-- a word and a bit belong to one pixel only
word_apart : (w h j x y j' x' y' : ℕ) → x < w → y < h → x' < w → y' < h → word_of w h j x y ≡ word_of w h j' x' y'
    → (j ≡ j') × (y ≡ y') × (x / 32 ≡ x' / 32)
word_apart w h j x y j' x' y' lx ly lx' ly' e =
    let p = word_parts w h j x y (word_of w h j x y) lx ly refl in
    let q = word_parts w h j' x' y' (word_of w h j x y) lx' ly' e in
    (sym p.0 ∙ q.0, sym p.1 ∙ q.1, sym p.2 ∙ q.2)

-- a pixel that is read: no plane yet, and one more plane
pub read_none : (words : List ℕ) (w h x y : ℕ) → 0 ≡ pixel words w h 0 x y
unfolding pixel
read_none words w h x y = refl

abbrev pub ReadStep : List ℕ → (w h x y j v word : ℕ) → Type 0
ReadStep words w h x y j v word =
    let next = v + (bit_and (word / 2 ^ bit_of x) 1 * 2 ^ j) % 256 in (next ≡ pixel words w h (j + 1) x y) × (next < 256)

pub read_more : (words : List ℕ) (w h x y j v word : ℕ) → j < 8 → v ≡ pixel words w h j x y
    → word ≡ get_or words (word_of w h j x y) 0 → ReadStep words w h x y j v word
unfolding pixel
read_more words w h x y j v word l inv e =
    total_more (λ k. bit (get_or words (word_of w h k x y) 0) (bit_of x)) (λ k. bit_at-lt _ _) j v _ l inv
    (shr_and_one word (bit_of x) ∙ ap (λ n. bit n (bit_of x)) e)

-- The pixel (x, y) is v in the first n planes, and every other bit is as before.
pub record Stored (s : Size) (before after : List ℕ) (x y v n : ℕ) : Type 0 where
  pub long : length after ≡ length before
  pub planes : (j : ℕ) → j < n → bit (get_or after (word_of s.width s.height j x y) 0) (bit_of x) ≡ bit v j
  pub others : (i k : ℕ) → ((j : ℕ) → j < s.depth → i ≡ word_of s.width s.height j x y → k ≢ bit_of x)
      → bit (get_or after i 0) k ≡ bit (get_or before i 0) k

pub stored_none : (s : Size) (words : List ℕ) (x y v : ℕ) → Stored s words words x y v 0
stored_none s words x y v = record { long = refl; planes = λ j l. absurd (omega arith); others = λ i k free. refl }

module _ (s : Size) (before now : List ℕ) (x y v : ℕ) (lx : x < s.width) (ly : y < s.height) where
  -- one more plane, whose word is at i
  pub stored_more : (j i word : ℕ) → j < s.depth → Stored s before now x y v j → i ≡ word_of s.width s.height j x y → i < length now
      → bit word (bit_of x) ≡ bit v j → ((k : ℕ) → k ≢ bit_of x → bit word k ≡ bit (get_or now i 0) k)
      → Stored s before (set now i word) x y v (j + 1)
  stored_more j i word lj t ei li here rest =
      record {
        long = length-set now i word ∙ t.long;
        planes = λ a la.
            ⊎_elim
            (λ (e : a ≡ j). rw (e, ← ei, get_or-set_same now i word 0 li) here)
            (λ (ne : a ≢ j).
            let apart : word_of s.width s.height a x y ≢ i = λ e. ne (word_apart s.width s.height a x y j x y lx ly lx ly (e ∙ ei)).0 in
            rw (get_or-set_other now i (word_of s.width s.height a x y) word 0 apart) (t.planes a (omega arith)))
            (cases_eq a j);
        others = λ a k free.
            ⊎_elim
            (λ (e : a ≡ i). rw (e, get_or-set_same now i word 0 li) (rest k (free j lj (e ∙ ei)) ∙ t.others i k (λ b lb eb. free b lb (e ∙ eb))))
            (λ (ne : a ≢ i). rw (get_or-set_other now i a word 0 ne) (t.others a k free))
            (cases_eq a i);
      }

  pub stored_kept : Stored s before now x y v s.depth → Kept s before now
  stored_kept t = record { long = t.long; bits = λ i k free. t.others i k (λ j l. free j x y l lx ly) }

  module _ (lv : v < 2 ^ s.depth) (t : Stored s before now x y v s.depth) where
    stored_here : pixel now s.width s.height s.depth x y ≡ v
    unfolding pixel
    stored_here = total_alike _ _ s.depth (λ j l. ap (λ b. b * 2 ^ j) (t.planes j l)) ∙ bits_all v s.depth ∙ mod-eq_of_lt lv

    stored_apart : (a b : ℕ) → a < s.width → b < s.height → (a ≡ x → b ≢ y) → pixel now s.width s.height s.depth a b ≡ pixel before s.width s.height s.depth a b
    unfolding pixel
    stored_apart a b la lb ne =
        total_alike _ _ s.depth
        (λ j l.
        ap (λ n. n * 2 ^ j)
        (t.others (word_of s.width s.height j a b) (bit_of a)
        (λ j' l' e ek. let z = word_apart s.width s.height j a b j' x y la lb lx ly e in ne (omega (arith, z.2, ek)) z.1)))

    pub stored_picture : laid_out now s ≡ with_pixel (laid_out before s) x y v
    unfolding painted
    stored_picture =
        same_picture _ _ refl refl refl
        (λ a b.
        let here : a ≡ x → b ≡ y → pixel now s.width s.height s.depth a b ≡ v = λ ea eb. rw (ea, eb) stored_here in
        let apart = stored_apart a b in
        grind (arith, nat_tests))

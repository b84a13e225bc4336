-- Rows in a list of entries: where they lie, what a written row changes, and what is kept from call to call.
-- Lemmas: proved, not to be believed. They stand here since the laws in the impl of Bitmap cite them.
use Rattle.std.specs.Prelude.{◌≡◌, ℕ, suc, ◌+◌, ◌-◌, ◌*◌, ◌<◌, ◌≤◌, Bool, true, false, cond, ◌&&◌, ◌||◌, ◌⊎◌, List, length, take, drop, ◌==◌, ◌≢◌, nat_eq, nat_lt, slice_index, refl}
use Rattle.std.proofs.Common.{sym, ap, subst, ◌∙◌, inl, inr, ⊎_elim, suc-mul, arith, rules}
use borrow.Rule.Slice.PartMut.{put_mid}
use Rattle.std.proofs.lemmas.Nat.{mul-le}
use Rattle.std.proofs.lemmas.List.{ext_get_or, get_or-take, get_or-drop, length-take, length-drop, places}
use Rattle.std.proofs.lemmas.Slice.{between-put_mid}
use Rattle.std.proofs.lemmas.Bool.{cases_Bool, cases_lt, both_ways, eqb-true, or_cases, or_parts, eqb-false}
use Rattle.std.proofs.lemmas.Bool.Decides.{nat_tests}
use Rattle.raster.specs.declared.size.Size.{Size}
use Rattle.runrows.specs.Runs.{run_at, run_rows, row_entries, Carried, Settled, Rewritten}

-- Row y holds some pixels in their one writing, and all other entries stay.
pub record RowWritten (s : Size) (y : ℕ) (pixels es fs : List ℕ) : Type 0 where
  pub long : length fs ≡ length es
  pub others : (k : ℕ) → (k < y * s.width) ⊎ (y * s.width + s.width ≤ k) → slice_index fs k ≡ slice_index es k
  pub settled : Settled s.depth (row_entries fs s.width y) s.width
  pub value : (x : ℕ) → x < s.width → run_at s.depth (row_entries fs s.width y) x ≡ slice_index pixels x

-- two rows do not overlap, and each has room
rows_apart : (w y z : ℕ) → y < z → y * w + w ≤ z * w
rows_apart w y z l = omega (arith, suc-mul y w, mul-le (suc y) w z w l (omega arith))

pub row_room : (s : Size) (n y : ℕ) → Carried n s → y < s.height → y * s.width + s.width ≤ n
row_room s n y c l = omega (arith, c.4, rows_apart s.width y s.height l)

-- rows of lists that agree there
rows_alike : (es fs : List ℕ) (w y : ℕ) → length fs ≡ length es → ((k : ℕ) → y * w ≤ k → k < y * w + w → slice_index fs k ≡ slice_index es k)
    → row_entries fs w y ≡ row_entries es w y
rows_alike es fs w y l e =
    ext_get_or 0 (row_entries fs w y) (row_entries es w y) (simp (length-take, length-drop) (omega (arith, l)))
    (λ i m.
    let h : i < w = omega (arith, simp (length-take, length-drop) at m) in
    get_or-take w (drop (y * w) fs) i 0 h ∙ get_or-drop (y * w) fs i 0 ∙ e (y * w + i) (omega arith) (omega arith)
    ∙ sym (get_or-take w (drop (y * w) es) i 0 h ∙ get_or-drop (y * w) es i 0))

-- a row put into a list of rows
pub row_put : (xs ys pixels : List ℕ) (s : Size) (y : ℕ) → y * s.width + s.width ≤ length xs → length ys ≡ s.width
    → Settled s.depth ys s.width → ((a : ℕ) → a < s.width → run_at s.depth ys a ≡ slice_index pixels a)
    → RowWritten s y pixels xs (put_mid (y * s.width) (y * s.width + s.width - y * s.width) xs ys)
row_put xs ys pixels s y room l settled value =
    let w : ℕ = s.width in
    let at : ℕ = y * w in
    let e : at + w - at ≡ w = omega arith in
    let fs : List ℕ = put_mid at (at + w - at) xs ys in
    let row : row_entries fs w y ≡ ys = ap (λ n. take n (drop at fs)) (sym e) ∙ between-put_mid at (at + w - at) xs ys (at + w) (omega arith) (l ∙ sym e) in
    record {
      long = search (rules, places);
      others = λ k o. ⊎_elim (λ (h : k < at). search (rules, places)) (λ (h : at + w ≤ k). search (rules, places)) o;
      settled = subst (λ (es : List ℕ). Settled s.depth es w) (sym row) settled;
      value = λ a m. ap (λ (es : List ℕ). run_at s.depth es a) row ∙ value a m;
    }

-- the other rows
row_stays : (s : Size) (y : ℕ) (pixels es fs : List ℕ) (z : ℕ) → RowWritten s y pixels es fs → (z ≢ y) → row_entries fs s.width z ≡ row_entries es s.width z
row_stays s y pixels es fs z r ne =
    rows_alike es fs s.width z r.long
    (λ k lo hi.
    ⊎_elim (λ (h : z < y). r.others k (inl (omega (arith, rows_apart s.width z y h))))
    (λ (h : y ≤ z). r.others k (inr (omega (arith, rows_apart s.width y z (omega arith)))))
    (cases_lt z y))

module _ (s : Size) (y : ℕ) (pixels es fs : List ℕ) (ly : y < s.height) (r : RowWritten s y pixels es fs) where
  -- the pixels after it
  pub written_at : (a b : ℕ) → (run_rows fs s).at a b ≡ cond (nat_lt a s.width && b == y) (slice_index pixels a) ((run_rows es s).at a b)
  written_at a b =
      let mine : b ≡ y → a < s.width → run_at s.depth (row_entries fs s.width b) a ≡ slice_index pixels a = λ e l. ap (λ n. run_at s.depth (row_entries fs s.width n) a) e ∙ r.value a l in
      let other : b ≢ y → run_at s.depth (row_entries fs s.width b) a ≡ run_at s.depth (row_entries es s.width b) a =
      λ ne. ap (λ (gs : List ℕ). run_at s.depth gs a) (row_stays s y pixels es fs b r ne) in
      grind (arith, nat_tests)

  pub written_rewrites : Rewritten s (λ b. nat_eq b y) es fs
  written_rewrites =
      record {
        long = r.long;
        past = λ k l. r.others k (inr (omega (arith, rows_apart s.width y s.height ly)));
        stays = λ b l f. row_stays s y pixels es fs b r (eqb-false b y f);
        settles = λ b l f. let e : b ≡ y = eqb-true b y f in rw e r.settled;
      }

-- what is kept from call to call

pub rewritten_none : (s : Size) (t : ℕ → Bool) (es : List ℕ) → ((y : ℕ) → t y ≡ false) → Rewritten s t es es
rewritten_none s t es e = record { long = refl; past = λ k l. refl; stays = λ y l f. refl; settles = λ y l f. absurd (both_ways (t y) (e y) f) }

pub rewritten_joins : (s : Size) (t u v : ℕ → Bool) (a b c : List ℕ) → ((y : ℕ) → v y ≡ (u y || t y)) → Rewritten s t a b → Rewritten s u b c → Rewritten s v a c
rewritten_joins s t u v a b c e p q =
    record {
      long = q.long ∙ p.long;
      past = λ k l. q.past k l ∙ p.past k l;
      stays = λ y l f. let g = or_parts (u y) (t y) (sym (e y) ∙ f) in q.stays y l g.0 ∙ p.stays y l g.1;
      settles = λ y l f.
          ⊎_elim (λ (g : u y ≡ true). q.settles y l g)
          (λ (g : u y ≡ false).
          let h : t y ≡ true = ⊎_elim (λ (i : u y ≡ true). absurd (both_ways (u y) g i)) (λ (i : t y ≡ true). i) (or_cases (u y) (t y) (sym (e y) ∙ f)) in
          subst (λ (es : List ℕ). Settled s.depth es s.width) (sym (q.stays y l g)) (p.settles y l h))
          (cases_Bool (u y));
    }

-- One axis of a BitBlt, in numbers counted from -32,768.
use Rattle.std.proofs.Common.{◌≡◌, ℕ, ◌+◌, ◌<◌, ◌≤◌, ◌&&◌, ltb, leb, ℤ, pos, ◌+ℤ◌, ap, ◌∙◌, arith}
use Rattle.std.proofs.lemmas.Int.{ints}
use Rattle.std.proofs.lemmas.Bool.Decides.{nat_tests}
use Rattle.raster.specs.Blt.{holds, behind}
use Rattle.raster.specs.Blits.{spans, opposite}
use Rattle.raster.specs.Clip.{hits, Clipped}
use Rattle.raster.specs.declared.span.Span.{Span}

in_size : (x n : ℕ) → holds (pos 0) n (pos x) ≡ ltb x n
in_size x n = grind (arith, ints, nat_tests)

module _ (s d : ℤ) (S D : ℕ) (es : pos S ≡ s +ℤ pos 32768) (ed : pos D ≡ d +ℤ pos 32768) where
  in_part : (x n : ℕ) → holds d n (pos x) ≡ (leb D (x + 32768) && ltb (x + 32768) (D + n))
  in_part x n = grind (arith, ints, nat_tests)

  in_source : (x m : ℕ) → holds (pos 0) m (behind s d x) ≡ (leb D (x + S) && ltb (x + S) (D + m))
  in_source x m = grind (arith, ints, nat_tests)

  back : (x k : ℕ) → x + S ≡ D + k → behind s d x ≡ pos k
  back x k h = omega (arith, ints)

  pub clipped : (n source dest : ℕ) (r : Span) → r.first + r.len ≤ dest → r.source + r.len ≤ source
      → ((x : ℕ) → ((leb D (x + 32768) && ltb (x + 32768) (D + n)) && (ltb x dest && (leb D (x + S) && ltb (x + S) (D + source)))) ≡ spans r x)
      → ((x : ℕ) → r.first ≤ x → x < r.first + r.len → x + S ≡ D + opposite r x)
      → (r.len ≡ 0 → (r.first ≡ 0) × (r.source ≡ 0))
      → Clipped s d n source dest r
  unfolding hits
  clipped n source dest r w l h b none =
      record {
        paints = w;
        reads = l;
        hit = λ x. ap (λ t. t && (holds (pos 0) dest (pos x) && holds (pos 0) source (behind s d x))) (in_part x n)
            ∙ ap (λ t. (leb D (x + 32768) && ltb (x + 32768) (D + n)) && (t && holds (pos 0) source (behind s d x))) (in_size x dest)
            ∙ ap (λ t. (leb D (x + 32768) && ltb (x + 32768) (D + n)) && (ltb x dest && t)) (in_source x source) ∙ h x;
        back = λ x t. back x (opposite r x) (b x (grind (arith, nat_tests)) (grind (arith, nat_tests)));
        none = none;
      }

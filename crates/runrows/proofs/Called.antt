-- What run rows have to show of each call.
use Rattle.std.proofs.Common.{◌≡◌, ℕ, ◌*◌, ◌&&◌, ltb, Ok, Result}
use Rattle.std.specs.Result.{IsErrAnd}
use Rattle.raster.specs.Calls.{BitmapCall, bitmap_answer, bitmap_after, row_concerned}
use Rattle.raster.specs.Blits.{spans, performed}
use Rattle.raster.specs.declared.fault.Fault.{Fault}
use Rattle.raster.specs.declared.blit.Blit.{Blit}
use Rattle.raster.proofs.Called as any
use Rattle.raster.proofs.Called.{Refused, Painted}
use Rattle.runrows.specs.Means.{picture_of, RowsKept, RowsRewritten, RowsCalled}
use Rattle.runrows.specs.Keep.{rows_same, untouched, rewritten_as}
use Rattle.runrows.specs.declared.runrows.RunRows.{RunRows}

pub call_refused : (p : RunRows) (call : BitmapCall) (r : Result ℕ Fault) (f : Fault) → IsErrAnd r (λ e. e ≡ f) → Refused (picture_of p) call f → RowsCalled p call r p
call_refused p call r f h q = record { called = any.call_refused picture_of RowsKept p (rows_same p) call r f h q; entries = untouched p _ q.rows }

-- a call that was accepted, and what it did to the entries
pub call_accepted : (p q : RunRows) (call : BitmapCall) (n : ℕ) → Ok n ≡ bitmap_answer (picture_of p) call → picture_of q ≡ bitmap_after (picture_of p) call
    → RowsRewritten (row_concerned (picture_of p) call) p q → RowsCalled p call (Ok n) q
call_accepted p q call n answer after entries = record {
  called = record { answer = answer; after = after; rest = (row_concerned (picture_of p) call, entries); refused = tt };
  entries = entries;
}

-- a fill or a scroll whose blit was performed
pub call_painted : (p q : RunRows) (call : BitmapCall) (b : Blit) (n : ℕ) → Painted (picture_of p) call b → n ≡ b.rows.len * b.columns.len
    → picture_of q ≡ performed b (picture_of p) → RowsRewritten (λ y. spans b.rows y && ltb 0 b.columns.len) p q → RowsCalled p call (Ok n) q
call_painted p q call b n d e after rest = call_accepted p q call n (d.answer n e) (d.after _ after) (rewritten_as p q _ _ d.rows rest)

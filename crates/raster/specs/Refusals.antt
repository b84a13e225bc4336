-- The number of each refusal. Checks are made in the order of these numbers.
use Rattle.std.specs.Prelude.{ℕ}
use Rattle.raster.specs.declared.refusal.Refusal.{Refusal}
use Rattle.raster.specs.declared.refusal.Refusal.TheVariants.{BytesMissing, UnknownKind, WrongLength, ClientAboveSeven, Host, NotOpen, AlreadyOpen, OpenBeyondSize, RuleAboveFifteen, ValueTooLarge, OutsideBitmap, TooFewSlots, BufferTooShort, AllRowsPrinted}

abbrev pub number : Refusal → ℕ
number BytesMissing = 1
number UnknownKind = 2
number WrongLength = 3
number ClientAboveSeven = 4
number Host = 5
number NotOpen = 6
number AlreadyOpen = 7
number OpenBeyondSize = 8
number RuleAboveFifteen = 9
number ValueTooLarge = 10
number OutsideBitmap = 11
number TooFewSlots = 12
number BufferTooShort = 13
number AllRowsPrinted = 14

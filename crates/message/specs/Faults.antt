-- The number that each fault of a segment has among the refusals, and the component it is told at.
use Rattle.std.specs.Prelude.{ℕ}
use Rattle.message.specs.declared.layout.Spot.{Spot}
use Rattle.message.specs.declared.layout.SegmentFault.{SegmentFault}
use Rattle.message.specs.declared.layout.SegmentFault.TheVariants.{Beyond, Missing, Unused, WrongClass, WrongLength, NotListed, BadHeader, BadTrailer}

abbrev pub number_of : SegmentFault → ℕ
number_of (Beyond s) = 8
number_of (Missing s) = 9
number_of (Unused s) = 10
number_of (WrongClass s) = 11
number_of (WrongLength s) = 12
number_of (NotListed s) = 13
number_of (BadHeader s) = 14
number_of (BadTrailer s) = 15

abbrev pub spot_of : SegmentFault → Spot
spot_of (Beyond s) = s
spot_of (Missing s) = s
spot_of (Unused s) = s
spot_of (WrongClass s) = s
spot_of (WrongLength s) = s
spot_of (NotListed s) = s
spot_of (BadHeader s) = s
spot_of (BadTrailer s) = s

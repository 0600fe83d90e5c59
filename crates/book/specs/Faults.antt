-- The numbers of a book's refusals.
use Rattle.std.specs.Prelude.{ℕ}
use Rattle.book.specs.declared.fault.BookFault.{BookFault}
use Rattle.book.specs.declared.fault.BookFault.TheVariants.{TooManyRecords, TooManySuppositions, NoneStanding}

abbrev pub fault_number : BookFault → ℕ
fault_number TooManyRecords = 21
fault_number TooManySuppositions = 30
fault_number NoneStanding = 31

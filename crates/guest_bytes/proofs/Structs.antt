-- Which loans the two structs are.
use mathlib.Core.Path.{refl}
use mathlib.Core.List.{[]}
use lib.Dec.{lit<}
use denote.RawPtr.{null_ptr}
use Rattle.guest_bytes.proofs.Lending.{bytes, words}
use Rattle.guest_bytes.proofs.Loans.{Loan}
use Rattle.guest_bytes.specs.contracts.loan.Loan as bytes_of
use Rattle.guest_bytes.specs.contracts.word_loan.WordLoan as words_of

abbrev pub byte_loan : Loan
byte_loan = record {
  of = bytes;
  name = bytes_of.struct.name;
  row = bytes_of.the_row;
  place = λ d. d.bytes;
  len = λ d. d.len;
  items = λ d. d.items;
  sized = λ d. d.sized;
  small = λ d. d.small;
  none = record { bytes = null_ptr; len = 0; items = []; sized = refl; small = lit< tt };
  is_none = (refl, refl, refl);
}

abbrev pub word_loan : Loan
word_loan = record {
  of = words;
  name = words_of.struct.name;
  row = words_of.the_row;
  place = λ d. d.words;
  len = λ d. d.len;
  items = λ d. d.items;
  sized = λ d. d.sized;
  small = λ d. d.small;
  none = record { words = null_ptr; len = 0; items = []; sized = refl; small = lit< tt };
  is_none = (refl, refl, refl);
}

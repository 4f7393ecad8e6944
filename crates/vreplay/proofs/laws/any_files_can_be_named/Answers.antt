use Rattle.vreplay.proofs.AnyFiles.{in_place_files, no_third_file, not_both, saved_files, two_files}
use Rattle.vreplay.proofs.laws.any_files_can_be_named.Goals as goal

pub returns : goal.returns
returns c = record {
  two = two_files;
  saved = saved_files;
  in_place = in_place_files;
  not_both = not_both;
  no_third = no_third_file;
}

use Rattle.std.proofs.Common.{◌∙◌, inl, inr, codes, rules, subst, sym, IsSome}
use Rattle.vreplay.specs.Words.{texts_of}
use Rattle.vreplay.proofs.Reading.{asked, given, in_place_apart, refused}
use Rattle.vreplay.proofs.words.read_words.Goals as goal

pub returns-in_err-trace-clause-refused : goal.returns-in_err-trace-clause-refused
returns-in_err-trace-clause-refused c =
    refused (texts_of c.args.words.now) c.from_residual.result (search rules) (inr (inl
    (given c.in-Ok.matches (texts_of c.args.words.now) (codes "trace") c.in-Ok.ensures.matches
    ∙ c.in_err-trace.ensures.none (search rules))))

pub returns-in_err-image-clause-refused : goal.returns-in_err-image-clause-refused
returns-in_err-image-clause-refused c =
    refused (texts_of c.args.words.now) c.from_residual-in_err-image.result (search rules) (inr (inr (inl
    (given c.in-Ok.matches (texts_of c.args.words.now) (codes "image") c.in-Ok.ensures.matches
    ∙ c.in_err-image.ensures.none (search rules)))))

pub returns-in_default-clause-refused : goal.returns-in_default-clause-refused
returns-in_default-clause-refused c =
    let words = texts_of c.args.words.now in
    let flag = given c.in-Ok.matches words (codes "in-place") c.in-Ok.ensures.matches in
    let file = given c.in-Ok.matches words (codes "save") c.in-Ok.ensures.matches in
    inr (inr (inr (
      flag ∙ c.keeping_of.ensures.flag (search rules),
      subst IsSome (sym file) (c.keeping_of.ensures.file (search rules)),
    )))

pub returns-clause-call : goal.returns-clause-call
returns-clause-call c =
    let words = texts_of c.args.words.now in
    record {
      taken = c.in-Ok.ensures.kinds;
      trace_is = given c.in-Ok.matches words (codes "trace") c.in-Ok.ensures.matches
          ∙ c.in_ok-trace.ensures.file;
      image_is = given c.in-Ok.matches words (codes "image") c.in-Ok.ensures.matches
          ∙ c.in_ok-image.ensures.file;
      save_is = given c.in-Ok.matches words (codes "save") c.in-Ok.ensures.matches ∙ c.in-Some.ensures.save;
      in_place_is = asked _ _ _ (given c.in-Ok.matches words (codes "in-place") c.in-Ok.ensures.matches)
          c.in-Some.ensures.in_place;
      apart = in_place_apart _;
    }

use Rattle.std.proofs.Common.{rules, ◌≡◌, ◌∙◌, ap, ap₂, codes, true, subst, IfOk}
use Rattle.clap.specs.Words.{HasMatchesOf, app_of, new_rule, rule_of, with_rule}
use Rattle.clap.specs.Simple.{app_of_fields, on_top}
use Rattle.vreplay.specs.Words.{bare, in_place_rule, save_rule, texts_of, vreplay}
use Rattle.vreplay.proofs.Reading.{fails_by}
use Rattle.vreplay.proofs.words.parse.Goals as goal

pub returns : goal.returns
returns c =
    let trace_is : rule_of c.new-2.result ≡ new_rule (codes "trace") = c.new-2.ensures.rule in
    let image_is : rule_of c.new-3.result ≡ new_rule (codes "image") = c.new-3.ensures.rule in
    let save_is : rule_of c.long.result ≡ save_rule = search rules in
    let in_place_is : rule_of c.action.result ≡ in_place_rule = search rules in
    let bare_is : app_of c.no_binary_name.result ≡ bare =
    ap app_of_fields c.no_binary_name.ensures
    ∙ ap (on_top (λ s. record s { no_binary_name = true })) c.new.ensures.app in
    let one : app_of c.in_ok-arg.field-0 ≡ with_rule bare (new_rule (codes "trace")) =
    c.in_ok-arg.ensures.shape (search rules) ∙ ap₂ with_rule bare_is trace_is in
    let two : app_of c.in_ok-arg-2.field-0 ≡ with_rule (with_rule bare (new_rule (codes "trace")))
    (new_rule (codes "image")) = c.in_ok-arg-2.ensures.shape (search rules)
    ∙ ap₂ with_rule one image_is in
    let three : app_of c.in_ok-arg-3.field-0
    ≡ with_rule (with_rule (with_rule bare (new_rule (codes "trace"))) (new_rule (codes "image")))
    save_rule = c.in_ok-arg-3.ensures.shape (search rules) ∙ ap₂ with_rule two save_is in
    let app_is : app_of c.in_ok-arg-4.field-0 ≡ vreplay = c.in_ok-arg-4.ensures.shape (search rules)
    ∙ ap₂ with_rule three in_place_is in
    let words = texts_of c.args.words.now in
    record {
      matches = subst (λ app. IfOk c.try_get_matches_from.result (HasMatchesOf app words)) app_is
          c.try_get_matches_from.ensures.matches;
      kinds = fails_by (app_of c.in_ok-arg-4.field-0) words c.try_get_matches_from.result app_is
          c.try_get_matches_from.ensures.kinds;
    }

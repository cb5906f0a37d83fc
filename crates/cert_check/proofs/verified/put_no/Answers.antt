use Rattle.std.proofs.Common.{◌≡◌, ◌++◌, ap, ◌∙◌}
use Rattle.std.specs.Prelude.{codes}
use Rattle.json.specs.Print.{quoted}
use Rattle.cert_lines.specs.Verify.{why_name}
use Rattle.cert_check.specs.Following.{why_of}
use Rattle.cert_check.proofs.LineLemmas.{no_text}
use Rattle.cert_check.proofs.verified.put_no.Goals as goal

pub returns : goal.returns
returns c =
    let front = c.in_ok-extend_from_slice.ensures.items ∙ ap (λ xs. xs ++ codes ",\"verify\":\"no\",\"why\":") c.in_ok-put_place.ensures.place in
    let word : c.as_bytes.result.now ≡ why_name (why_of c.args.why) = c.as_bytes.ensures.value ∙ c.why_word.ensures.word in
    record {
      line =
          c.in_ok-push.ensures.items
          ∙ ap (λ xs. xs ++ codes "}") (c.in_ok-put_quoted.ensures.quoted ∙ (λ i. front i ++ quoted (word i)))
          ∙ no_text c.args.text.now.items c.args.at c.args.chain.now (why_of c.args.why);
    }

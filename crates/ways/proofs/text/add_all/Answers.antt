use Rattle.std.proofs.Common.{ℕ, ◌+◌, List, ◌++◌, take, drop, sym, ap, ◌∙◌, subst}
use Rattle.std.proofs.lemmas.Result.{MatchResult-from_err}
use Rattle.ways.specs.Text.{Lacks, written_all}
use Rattle.ways.proofs.Growth.{lacks_then, lacks_more, written_at, written_split}
use Rattle.ways.proofs.text.add_all.Goals as goal

pub returns-in_err-add_to : goal.returns-in_err-add_to
returns-in_err-add_to c =
    let ps = c.args.parts.now in
    let i = c.loop-part.part-index in
    let whole = ap (λ (l : List ℕ). l ++ written_all (drop (i + 1) ps)) (sym (written_at ps i _ c.loop-part-test.true)) ∙ sym (written_split ps (i + 1)) in
    MatchResult-from_err _ _ _ c.from_residual.ensures.0 (λ _.
    subst (λ (l : List ℕ). Lacks c.args.text.now l) whole (lacks_more _ _ (lacks_then (written_all (take i ps)) _ c.loop-part.invariant c.in_err-add_to.ensures)))

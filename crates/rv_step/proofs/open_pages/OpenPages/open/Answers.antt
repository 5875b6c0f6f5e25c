use Rattle.std.proofs.Common.{get_or, Some, None, ap, ◌∙◌, arith, get_or-set_other}
use Rattle.std.proofs.lemmas.Result.{err_from_is_err_and}
use Rattle.rv_step.proofs.Opened.{seen_same, seen_set}
use Rattle.rv_step.proofs.open_pages.OpenPages.open.Goals as goal

pub returns-in_err-push-clause-others : goal.returns-in_err-push-clause-others
returns-in_err-push-clause-others c n away =
    seen_same _ c.push.new.self.items c.self.inside.pages.items c.args.self.now n c.self.view_is
    (ap (λ boxes. get_or boxes n None) c.in_err-push.ensures.items ∙ c.loop-self.invariant n)

pub returns-in_err-push-clause-kept : goal.returns-in_err-push-clause-kept
returns-in_err-push-clause-kept c =
    let out = err_from_is_err_and c.from_residual-in_err-push.result c.from_residual-in_err-push.ensures.1 in
    rw out.1
    (λ n. seen_same _ c.push.new.self.items c.self.inside.pages.items c.args.self.now n c.self.view_is
    (ap (λ boxes. get_or boxes n None) c.in_err-push.ensures.items ∙ c.loop-self.invariant n))

pub returns-clause-opened : goal.returns-clause-opened
returns-clause-opened c =
    seen_set _ c.loop-self.self-inside.pages.items c.args.number c.in_ok-content.content (omega (arith, c.loop-self.self-inside.pages.ok.0))
    ∙ ap Some (c.in_ok-content.ensures.ok ∙ c.of.ensures ∙ c.bytes.ensures.value)

pub returns-clause-others : goal.returns-clause-others
returns-clause-others c n away =
    seen_same _ _ c.self.inside.pages.items c.args.self.now n c.self.view_is
    (get_or-set_other c.loop-self.self-inside.pages.items c.args.number n (Some c.in_ok-content.content) None away ∙ c.loop-self.invariant n)

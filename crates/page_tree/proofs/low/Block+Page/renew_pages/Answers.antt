use Rattle.std.proofs.Common.{rules, ◌≡◌, ◌<◌, ◌%◌, ◌+◌, ◌++◌, ◌==◌, ℕ, suc, List, [], ◌∷◌, length, drop, if◌then◌else◌, Some, sym, ap, subst, ◌∙◌, add-one, arith}
use Rattle.std.proofs.Math.Seq.{drop-cons}
use Rattle.std.proofs.Math.ListN.{length-set}
use Rattle.std.proofs.lemmas.List.{drop_all}
use Rattle.page_core.specs.Pages.{IsPage}
use Rattle.page_tree.specs.Blocks.{child_at, memory_by, page_in}
use Rattle.page_tree.proofs.Renewing.{IsRenewing, renewing_first, renewing_next, renewing_last, renewed_digests, page_renewed}
use Rattle.page_tree.proofs.low.Block+Page.renew_pages.Goals as goal

pub loop-number-init : goal.loop-number-init
loop-number-init g c = record {
  put = renewing_first g.D.Digester.digest_of (λ (page : List ℕ) (n : ℕ). Some page) IsPage 0 c.args.self.now.digests c.args.self.now.children.items c.args.pages.now c.requires.block;
  long = search rules;
  rises = omega arith;
  cost = omega arith;
}

pub loop-number-preserved : goal.loop-number-preserved
loop-number-preserved g c =
    let pages = c.args.pages.now in
    let index = c.loop-number.number-index in
    let item = c.loop-number-item.result in
    let before = c.loop-number.self in
    let invariant = c.loop-number.invariant in
    let lt : index < length pages = omega arith in
    let parts : drop index pages ≡ (item ∷ []) ++ drop (index + 1) pages =
    rw (add-one index) (drop-cons pages index item lt ∙ ap (λ (p : ℕ × List ℕ). p ∷ drop (suc index) pages) (sym c.loop-number-item.is)) in
    let same : c.of.result ≡ item.1 = c.of.ensures ∙ c.bytes.ensures.value in
    record {
      put = renewing_next g.D.Digester.digest_of (λ (page : List ℕ) (n : ℕ). Some page) IsPage 0 c.args.self.now.digests c.args.self.now.children.items pages
          before.digests c.put.new.self.digests before.children.items c.put.new.self.children.items (drop index pages) (item ∷ []) (drop (index + 1) pages)
          item.0 item.1 c.page_digest-digest.result invariant.put parts invariant.long
          (page_renewed g.D.Digester.digest_of item.0 item.1 c.page_digest-digest.result (child_at before.children.items (item.0 % 64)) c.bytes.ensures.page c.page_digest-digest.ensures.digest)
          c.in_ok-put.ensures.long
          (λ k. c.in_ok-put.ensures.child k ∙ ap (λ (p : List ℕ). if k == item.0 % 64 then Some p else child_at before.children.items k) same)
          c.in_ok-put.ensures.digest;
      long = ap length c.in_ok-put.ensures.digest ∙ length-set before.digests (64 + item.0 % 64) c.page_digest-digest.result ∙ invariant.long;
      rises = omega arith;
      cost = omega arith;
    }

pub returns-clause-block : goal.returns-clause-block
returns-clause-block g c =
    let H = g.D.Digester.digest_of in
    let old = c.args.self.now in
    let new = c.loop-number.self in
    let pages = c.args.pages.now in
    let put = subst (IsRenewing H (λ (page : List ℕ) (n : ℕ). Some page) IsPage 0 old.digests old.children.items pages new.digests new.children.items) (drop_all c.loop-number.number-index pages (omega arith)) c.loop-number.invariant.put in
    renewing_last H (λ (page : List ℕ) (n : ℕ). Some page) IsPage 0 old.digests old.children.items pages new.digests c.refresh.new.digests new.children.items put
    (renewed_digests H (λ (page : List ℕ) (n : ℕ). Some page) IsPage 0 old.digests old.children.items pages new.digests c.refresh.new.digests new.children.items c.requires.block put c.refresh.ensures.digests)

pub returns-clause-pages : goal.returns-clause-pages
returns-clause-pages g c n =
    let H = g.D.Digester.digest_of in
    let old = c.args.self.now in
    let new = c.loop-number.self in
    let pages = c.args.pages.now in
    let put = subst (IsRenewing H (λ (page : List ℕ) (n : ℕ). Some page) IsPage 0 old.digests old.children.items pages new.digests new.children.items) (drop_all c.loop-number.number-index pages (omega arith)) c.loop-number.invariant.put in
    put.pages n

pub returns-clause-digest : goal.returns-clause-digest
returns-clause-digest g c =
    c.refresh.ensures.digest (memory_by (page_in (λ (page : List ℕ) (n : ℕ). Some page) 0 c.loop-number.self.children.items)) (returns-clause-block g c).digests_are

use Rattle.std.proofs.Common.{rules, ◌+◌, ◌%◌, length, ap, subst, ◌∙◌, length-append, arith}
use Rattle.std.specs.Option.{option_or}
use Rattle.std.proofs.Math.ListN.{length-set}
use Rattle.page_tree.specs.Blocks.{memory_by, page_of_low, page_in, IsLow}
use Rattle.page_tree.specs.Changes.{last_of}
use Rattle.page_tree.proofs.Renewing.{IsRenewing, renewing_first, renewing_next, renewing_last, renewed_digests, none_left}
use Rattle.page_tree.proofs.middle.Block+Low.renew_lows.Goals as goal

pub loop-rest-init : goal.loop-rest-init
loop-rest-init g c = record {
  put = renewing_first g.D.Digester.digest_of page_of_low (IsLow g.D.Digester.digest_of) 6 c.args.self.now.digests c.args.self.now.children.items c.args.pages.now c.requires.block;
  long = search rules;
  rises = omega arith;
  cost = omega arith;
}

pub loop-rest-preserved : goal.loop-rest-preserved
loop-rest-preserved g c =
    let run = c.first_run-run.result in
    let before = c.loop-rest.self in
    let invariant = c.loop-rest.invariant in
    let renewed = c.in_ok-digest.ensures in
    record {
      put = renewing_next g.D.Digester.digest_of page_of_low (IsLow g.D.Digester.digest_of) 6 c.args.self.now.digests c.args.self.now.children.items c.args.pages.now
          before.digests c.put.new.self.digests before.children.items c.put.new.self.children.items c.loop-rest.rest.now run.pages.now run.after.now
          run.node c.renew_pages.new.self c.in_ok-digest.digest invariant.put c.first_run-run.ensures.all invariant.long
          (record {
            below = c.first_run-run.ensures.below;
            is = renewed.block;
            pages = λ n. renewed.pages n ∙ ap (option_or (last_of 64 n run.pages.now)) (c.in_ok-low.ensures.pages n);
            digest_is = renewed.digest;
          })
          c.in_ok-put.ensures.long c.in_ok-put.ensures.child c.in_ok-put.ensures.digest;
      long = ap length c.in_ok-put.ensures.digest ∙ length-set before.digests (64 + run.node % 64) c.in_ok-digest.digest ∙ invariant.long;
      rises = omega arith;
      cost = omega (arith, ap length c.first_run-run.ensures.all ∙ length-append run.pages.now run.after.now);
    }

pub returns-clause-block : goal.returns-clause-block
returns-clause-block g c =
    let H = g.D.Digester.digest_of in
    let old = c.args.self.now in
    let new = c.loop-rest.self in
    let pages = c.args.pages.now in
    let put = subst (IsRenewing H page_of_low (IsLow H) 6 old.digests old.children.items pages new.digests new.children.items) (none_left c.loop-rest.rest.now c.is_empty.result c.is_empty.ensures c.loop-rest-test.false) c.loop-rest.invariant.put in
    renewing_last H page_of_low (IsLow H) 6 old.digests old.children.items pages new.digests c.refresh.new.digests new.children.items put
    (renewed_digests H page_of_low (IsLow H) 6 old.digests old.children.items pages new.digests c.refresh.new.digests new.children.items c.requires.block put c.refresh.ensures.digests)

pub returns-clause-pages : goal.returns-clause-pages
returns-clause-pages g c n =
    let H = g.D.Digester.digest_of in
    let old = c.args.self.now in
    let new = c.loop-rest.self in
    let pages = c.args.pages.now in
    let put = subst (IsRenewing H page_of_low (IsLow H) 6 old.digests old.children.items pages new.digests new.children.items) (none_left c.loop-rest.rest.now c.is_empty.result c.is_empty.ensures c.loop-rest-test.false) c.loop-rest.invariant.put in
    put.pages n

pub returns-clause-digest : goal.returns-clause-digest
returns-clause-digest g c =
    c.refresh.ensures.digest (memory_by (page_in page_of_low 6 c.loop-rest.self.children.items)) (returns-clause-block g c).digests_are

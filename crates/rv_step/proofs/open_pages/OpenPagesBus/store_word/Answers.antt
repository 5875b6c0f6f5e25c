use Rattle.std.proofs.Common.{◌≡◌, ℕ, ◌/◌, ◌%◌, List, length, sym, ap, ◌∙◌, arith}
use Rattle.std.specs.Box.{with_value}
use Rattle.page_core.specs.Memory.{put}
use Rattle.page_core.specs.Memories.{flat}
use Rattle.rv_step.specs.Opened.{pages_in}
use Rattle.rv_step.proofs.Opened.{found, open_same, written}
use Rattle.rv_step.proofs.open_pages.OpenPagesBus.store_word.Goals as goal

pub returns-clause-same_pages : goal.returns-clause-same_pages
returns-clause-same_pages c =
    λ i k. open_same _ c.self.inside.pages.items c.args.self.now (c.args.address / 1024) c.in-Some.page (with_value c.in-Some.page c.put.new.self) c.self.view_is
    (found _ c.self.inside.pages.items c.args.self.now (c.args.address / 1024) c.in-Some.page _ c.self.view_is c.requires.opened c.in-Some.is c.index_mut.ensures.value)
    k i

pub returns-clause-same_room : goal.returns-clause-same_room
returns-clause-same_room c = returns-clause-same_pages c

pub returns-clause-written : goal.returns-clause-written
returns-clause-written c =
    let bs : List ℕ = c.to_le_bytes.result in
    let page : List ℕ = c.in-Some.page.value in
    let at : ℕ = c.args.address % 1024 in
    let size : length bs ≡ 4 = ap length c.to_le_bytes.ensures in
    let was : c.deref_mut.result.now ≡ page = c.deref_mut.ensures.value in
    let long : length page ≡ 1024 = sym (ap length was) ∙ c.put.ensures.was_page.0 in
    written _ c.self.inside.pages.items c.args.self.now c.args.address c.in-Some.page (with_value c.in-Some.page c.put.new.self) bs c.self.view_is
    (found _ c.self.inside.pages.items c.args.self.now (c.args.address / 1024) c.in-Some.page _ c.self.view_is c.requires.opened c.in-Some.is c.index_mut.ensures.value)
    long (omega arith) (rw was at c.put.ensures.value)
    ∙ ap (put (flat (pages_in c.args.self.now)) c.args.address) c.to_le_bytes.ensures

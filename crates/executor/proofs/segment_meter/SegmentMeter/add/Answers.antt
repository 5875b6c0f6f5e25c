use Rattle.std.proofs.Common.{◌≡◌, ◌||◌, false, get_or, ap, ◌∙◌, arith}
use Rattle.page_core.specs.Memory.{is_among}
use Rattle.host_calls.specs.Meters.{Meter, Metered, with_step, has_room}
use Rattle.executor.proofs.MarkedPages.{more_marked, room_parts, on_ok}
use Rattle.executor.proofs.segment_meter.SegmentMeter.add.Goals as goal

pub invariant_of-self : goal.invariant_of-self
invariant_of-self c =
    let m : Metered = c.self.inside.meter.segment in
    let added : c.add.new.self.segment ≡ with_step c.args.foot.now 0 m =
    on_ok c.add.result _ (c.add.ensures.room (omega (arith, ap (λ (x : Meter). x.spare) c.self.view_is, c.requires.spare))) c.add.ensures.added in
    let room =
    room_parts c.self.inside.cycles c.self.inside.cost c.args.cost c.args.foot.now m c.self.invariant.free
    (ap (λ (x : Meter). has_room c.args.foot.now c.args.cost x.segment) c.self.view_is ∙ c.requires.room) in
    record {
      within = room.0;
      free = omega (arith, ap (λ (x : Metered). x.cost) added, c.self.invariant.free);
      marks_are =
          more_marked m.touched c.args.foot.now c.add.new.self.segment.touched c.self.inside.marks c.mark.new.self c.self.invariant.marks_are c.requires.pages c.mark.ensures.size
          (λ p h. c.mark.ensures.marks p h ∙ ap (λ ps. get_or c.self.inside.marks p false || is_among ps p) c.pages.ensures.value) (ap (λ (x : Metered). x.touched) added);
    }

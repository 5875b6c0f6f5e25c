use Rattle.std.proofs.Common.{◌∙◌, ◌∷◌, map, ap}
use Rattle.std.specs.Prelude.{codes, string_bytes}
use Rattle.cli_text.proofs.Commands.{no_prove}
use Rattle.cli_text.proofs.Items.{four_then, after_four}
use Rattle.cli_text.proofs.prove_words.prove_job.Goals as goal
use Rattle.cli_text.proofs.prove_words.prove_job.Goals.{in_default-2-via-in-Some+in-Some+in-Some+in-Some+in_default, in_default-2-via-in-Some+in-Some+in-Some+in_default, in_default-2-via-in-Some+in-Some+in_default, in_default-2-via-in-Some+in_default, in_default-2-via-in_default}

pub returns-in_default-2-clause-none : goal.returns-in_default-2-clause-none
returns-in_default-2-clause-none c =
    let rest = c.args.rest.now in
    let items = four_then rest c.cycles-item.result c.pages-item.result c.limit-item.result c.workers-item.result c.in-len4-up.len_at_least c.cycles-item.is c.pages-item.is c.limit-item.is c.workers-item.is in
    no_prove (codes "prove" ∷ c.args.elf ∷ c.args.input ∷ c.args.receipt ∷ map string_bytes rest) c.args.elf c.args.input c.args.receipt
    (string_bytes c.cycles-item.result) (string_bytes c.pages-item.result) (string_bytes c.limit-item.result) (string_bytes c.workers-item.result) (map string_bytes (after_four rest))
    (ap (λ words. codes "prove" ∷ c.args.elf ∷ c.args.input ∷ c.args.receipt ∷ map string_bytes words) items)
    (λ cycles pages limit workers is_cycles is_pages is_limit is_workers cycled paged limited working named.
    elim c.in_default-2.branch [
      | in_default-2-via-in-Some+in-Some+in-Some+in-Some+in_default w ↦ (rw w.in_default-2.is-4 at c.in_ok-others.ensures.none) named
      | in_default-2-via-in-Some+in-Some+in-Some+in_default w ↦
          (rw w.in_default-2.is-3 at c.in_ok-workers_of.ensures.none) workers working (c.as_str-4.ensures.value ∙ is_workers)
      | in_default-2-via-in-Some+in-Some+in_default w ↦ (rw w.in_default-2.is-2 at c.in_ok-limit_of.ensures.none) limit limited (c.as_str-3.ensures.value ∙ is_limit)
      | in_default-2-via-in-Some+in_default w ↦ (rw w.in_default-2.is-1 at c.in_ok-page_limit_of.ensures.none) pages paged (c.as_str-2.ensures.value ∙ is_pages)
      | in_default-2-via-in_default w ↦ (rw w.in_default-2.is-0 at c.in_ok-cycle_limit_of.ensures.none) cycles cycled (c.as_str.ensures.value ∙ is_cycles)
    ])

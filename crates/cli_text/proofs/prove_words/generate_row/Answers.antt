use Rattle.std.proofs.Common.{◌∙◌, ◌∷◌, map, ap, arith}
use Rattle.std.specs.Prelude.{codes, string_bytes}
use Rattle.cli_text.proofs.Commands.{no_generate}
use Rattle.cli_text.proofs.Items.{five_items}
use Rattle.cli_text.proofs.prove_words.generate_row.Goals as goal
use Rattle.cli_text.proofs.prove_words.generate_row.Goals.{in_default-2-via-in-Some+in-Some+in-Some+in-Some+in_default, in_default-2-via-in-Some+in-Some+in-Some+in_default, in_default-2-via-in-Some+in-Some+in_default, in_default-2-via-in-Some+in_default, in_default-2-via-in_default}

pub returns-in_default-2-clause-none : goal.returns-in_default-2-clause-none
returns-in_default-2-clause-none c =
    let rest = c.args.rest.now in
    let items = five_items rest c.number-item.result c.size-item.result c.cycles-item.result c.pages-item.result c.workers-item.result (omega (arith, c.in-len5.len_at_least, c.in-len5.len_below))
    c.number-item.is c.size-item.is c.cycles-item.is c.pages-item.is c.workers-item.is in
    no_generate (codes "generate" ∷ map string_bytes rest) (string_bytes c.number-item.result) (string_bytes c.size-item.result) (string_bytes c.cycles-item.result) (string_bytes c.pages-item.result) (string_bytes c.workers-item.result)
    (ap (λ words. codes "generate" ∷ map string_bytes words) items)
    (λ number size cycles pages workers is_number is_size is_cycles is_pages is_workers fits sized cycled paged working.
    elim c.in_default-2.branch [
      | in_default-2-via-in-Some+in-Some+in-Some+in-Some+in_default w ↦
          (rw w.in_default-2.is-4 at c.in_ok-workers.ensures.none) workers working (c.as_str-5.ensures.value ∙ is_workers)
      | in_default-2-via-in-Some+in-Some+in-Some+in_default w ↦
          (rw w.in_default-2.is-3 at c.in_ok-page_limit_of.ensures.none) pages paged (c.as_str-4.ensures.value ∙ is_pages)
      | in_default-2-via-in-Some+in-Some+in_default w ↦
          (rw w.in_default-2.is-2 at c.in_ok-cycle_limit_of.ensures.none) cycles cycled (c.as_str-3.ensures.value ∙ is_cycles)
      | in_default-2-via-in-Some+in_default w ↦
          (rw w.in_default-2.is-1 at c.in_ok-size_of.ensures.none) size sized (c.as_str-2.ensures.value ∙ is_size)
      | in_default-2-via-in_default w ↦
          (rw w.in_default-2.is-0 at c.in_ok-number_of.ensures.none) number fits (c.as_str.ensures.value ∙ is_number)
    ])

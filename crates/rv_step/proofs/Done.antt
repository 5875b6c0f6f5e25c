-- What each part of a step changes is what the act does.
use Rattle.std.proofs.Common.{◌≡◌, ℕ, ◌+◌, List, [], ◌∷◌, ◌++◌, take, drop, drop-drop, refl, append-nil, add-zero, sym, ap, ap₂, ◌∙◌}
use Rattle.std.specs.Int.{w32, byte_len, to_le_bytes, from_le_bytes}
use Rattle.std.specs.List.{flat_map}
use Rattle.rv_isa.specs.declared.instr.LoadOp.{LoadOp}
use Rattle.rv_isa.specs.declared.instr.StoreOp.{StoreOp}
use Rattle.rv_isa.specs.Registers.{with_register}
use Rattle.host_calls.specs.declared.call.AssumeCall.{AssumeCall}
use Rattle.host_calls.specs.declared.call.Call.TheVariants.{Halt, Read, Commit, Assume}
use Rattle.page_core.specs.Memory.{bytes, put}
use Rattle.rv_step.specs.declared.act.Act.TheVariants.{Loads, Stores}
use Rattle.rv_step.specs.declared.place.Core.{Core}
use Rattle.rv_step.specs.Machine.{State, Went, Halted, load_width, store_width, loaded_word, call_event, act_event}
use Rattle.rv_step.specs.Tapes.{Tape, Log}
use Rattle.rv_step.specs.Stepping.{state_at}
use Rattle.rv_step.proofs.Words.{none_put, no_bytes}

-- the next word, with a value in a register
abbrev pub next_core : Core → ℕ → ℕ → Core
next_core core rd v = record { pc = core.pc + 4; regs = with_register core.regs rd v }

pub loads_to : (op : LoadOp) (rd a v : ℕ) (core new : Core) (m : ℕ → ℕ) (tape : Tape) (log : Log)
    → v ≡ loaded_word op (from_le_bytes (load_width op) (bytes m a (byte_len (load_width op)))) → new ≡ next_core core rd v
    → act_event (Loads op rd a) (state_at core m tape log) ≡ Went (state_at new m tape log)
unfolding act_event
loads_to op rd a v core new m tape log value is =
    sym (ap (λ (c : Core). Went (state_at c m tape log)) (is ∙ ap (next_core core rd) value))

pub stores_to : (op : StoreOp) (a v : ℕ) (core new : Core) (m n : ℕ → ℕ) (tape : Tape) (log : Log)
    → n ≡ put m a (to_le_bytes (store_width op) v) → new ≡ next_core core 0 0
    → act_event (Stores op a v) (state_at core m tape log) ≡ Went (state_at new n tape log)
unfolding act_event
stores_to op a v core new m n tape log written is =
    sym (ap₂ (λ (c : Core) (k : ℕ → ℕ). Went (state_at c k tape log)) is written)

pub reads_to : (pointer count : ℕ) (core new : Core) (m n : ℕ → ℕ) (tape after : Tape) (log : Log)
    → n ≡ put m pointer (flat_map (to_le_bytes w32) (take count (drop tape.used tape.words))) → after ≡ record { words = tape.words; used = tape.used + count }
    → new ≡ next_core core 10 count
    → call_event (Read pointer count) (state_at core m tape log) ≡ Went (state_at new n after log)
unfolding call_event
reads_to pointer count core new m n tape after log written taken is =
    let left : drop after.used after.words ≡ drop count (drop tape.used tape.words) =
    ap (λ (t : Tape). drop t.used t.words) taken ∙ sym (drop-drop count tape.used tape.words) in
    sym (λ i. Went (record { pc = (is i).pc; x = (is i).regs; memory = written i; words = left i; journal = log.journal; calls = log.calls }))

pub commits_to : (pointer count : ℕ) (core new : Core) (m : ℕ → ℕ) (tape : Tape) (log after : Log)
    → after ≡ record { journal = log.journal ++ bytes m pointer count; calls = log.calls } → new ≡ next_core core 10 count
    → call_event (Commit pointer count) (state_at core m tape log) ≡ Went (state_at new m tape after)
unfolding call_event
commits_to pointer count core new m tape log after said is =
    sym (ap₂ (λ (c : Core) (l : Log). Went (state_at c m tape l)) is said)

pub assumes_to : (image journal : ℕ) (call : AssumeCall) (core new : Core) (m : ℕ → ℕ) (tape : Tape) (log after : Log)
    → call.image ≡ bytes m image 32 → call.journal ≡ bytes m journal 32
    → after ≡ record { journal = log.journal; calls = log.calls ++ call ∷ [] } → new ≡ next_core core 10 0
    → call_event (Assume image journal) (state_at core m tape log) ≡ Went (state_at new m tape after)
unfolding call_event
assumes_to image journal call core new m tape log after first second said is =
    sym (ap₂ (λ (c : Core) (l : Log). Went (state_at c m tape l)) is
    (said ∙ ap₂ (λ (i : List ℕ) (j : List ℕ). record { journal = log.journal; calls = log.calls ++ record { image = i; journal = j } ∷ [] }) first second))

-- a call of nothing touches no data
pub reads_none : (pointer count : ℕ) (core new : Core) (m : ℕ → ℕ) (tape : Tape) (log : Log) → count ≡ 0 → new ≡ next_core core 10 0
    → call_event (Read pointer count) (state_at core m tape log) ≡ Went (state_at new m tape log)
reads_none pointer count core new m tape log none is =
    reads_to pointer count core new m m tape tape log
    (none_put m pointer ∙ ap (λ (n : ℕ). put m pointer (flat_map (to_le_bytes w32) (take n (drop tape.used tape.words)))) (sym none))
    (λ i. record { words = tape.words; used = (sym (add-zero tape.used) ∙ ap (λ (n : ℕ). tape.used + n) (sym none)) i })
    (is ∙ ap (next_core core 10) (sym none))

pub commits_none : (pointer count : ℕ) (core new : Core) (m : ℕ → ℕ) (tape : Tape) (log : Log) → count ≡ 0 → new ≡ next_core core 10 0
    → call_event (Commit pointer count) (state_at core m tape log) ≡ Went (state_at new m tape log)
commits_none pointer count core new m tape log none is =
    commits_to pointer count core new m tape log log
    (λ i. record { journal = (sym (append-nil log.journal) ∙ ap (λ (bs : List ℕ). log.journal ++ bs) (no_bytes m pointer ∙ ap (bytes m pointer) (sym none))) i; calls = log.calls })
    (is ∙ ap (next_core core 10) (sym none))

pub halts_with : (code : ℕ) (s : State) → call_event (Halt code) s ≡ Halted code
unfolding call_event
halts_with code s = refl

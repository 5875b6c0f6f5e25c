use Rattle.std.proofs.Common.{◌≡◌, ◌*◌, ◌++◌, ℕ, List, length, sym, ap, ◌∙◌, append_assoc}
use Rattle.std.specs.List.{flat_map}
use Rattle.guest_gen.specs.Assembly.{file_header, load_header, word}
use Rattle.guest_gen.proofs.Lines.{lines_length}
use Rattle.guest_gen.proofs.assembling.assemble.Goals as goal

pub returns : goal.returns
returns c =
    let (words, are, written) = c.in_ok-put_lines.ensures in
    let size = ap (λ (n : ℕ). load_header (4 * n)) (sym (lines_length c.args.lines.now words are)) in
    let header : c.put_all.new.self ≡ file_header = c.in_ok-put_all.ensures.ok ∙ ap (λ (bytes : List ℕ). bytes ++ file_header) c.new-out.ensures in
    let headers : c.put_load_header.new.out ≡ file_header ++ load_header (4 * length words) =
    c.in_ok-put_load_header.ensures ∙ ap (λ (bytes : List ℕ). bytes ++ load_header (4 * length c.args.lines.now)) header ∙ ap (λ (bytes : List ℕ). file_header ++ bytes) size in
    record {
      words = words;
      lines_are = are;
      file_is =
          c.finish.ensures ∙ written ∙ ap (λ (bytes : List ℕ). bytes ++ flat_map word words) headers
          ∙ append_assoc file_header (load_header (4 * length words)) (flat_map word words);
    }

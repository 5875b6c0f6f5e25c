use Rattle.part_tree.proofs.Pages.{opened_open, open_opened, page_at-put, put-put, put-fill, fill-put}
use Rattle.part_tree.proofs.laws.put_laws.Goals as goal

pub returns : goal.returns
returns c = record {
  opened = λ i t number. (opened_open i t number, open_opened i t number);
  pages = page_at-put;
  twice = put-put;
  same = put-fill;
  fills = fill-put;
}

use Rattle.page_core.proofs.Bytes.{flat-page_of, bytes_hold_pages, put_reads_back, put-outside}
use Rattle.page_core.proofs.byte_laws.Goals as goal

pub returns : goal.returns
returns c = record {
  pages = flat-page_of;
  bytes = bytes_hold_pages;
  reads_back = put_reads_back;
  others = put-outside;
}

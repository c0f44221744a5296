use Rattle.es_json.proofs.WrittenReads.{written_reads}
use Rattle.es_json.proofs.laws.law_written_reads.Goals as goal

pub returns : goal.returns
returns c = written_reads

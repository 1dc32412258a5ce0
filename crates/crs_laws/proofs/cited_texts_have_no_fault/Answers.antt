use Rattle.crs_laws.proofs.CitedAudit.{cited_texts_have_no_fault}
use Rattle.crs_laws.proofs.cited_texts_have_no_fault.Goals as goal

pub returns : goal.returns
returns c = cited_texts_have_no_fault

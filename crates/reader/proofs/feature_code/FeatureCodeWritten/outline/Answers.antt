use Rattle.reader.specs.CodeTotal.{code_read}
use Rattle.reader.proofs.CodeUnique.{one_reading, one_refusal, never_both}
use Rattle.reader.proofs.Readings.{outlined}
use Rattle.reader.proofs.feature_code.FeatureCodeWritten.outline.Goals as goal

pub returns : goal.returns
returns c = let bs = c.args.bytes.now in outlined _ _ _ (one_reading bs) (one_refusal bs) (never_both bs) _ (code_read bs).1 _ c.read_codes.ensures

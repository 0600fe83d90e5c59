use Rattle.reader.specs.CodeTotal.{code_read}
use Rattle.reader.specs.FeatureCodes.{Whole}
use Rattle.reader.proofs.CodeHeads.{heads_whole}
use Rattle.reader.proofs.Readings.{key_at}
use Rattle.reader.proofs.feature_code.FeatureCodeWritten.key_at.Goals as goal

pub returns : goal.returns
returns c = let bs = c.args.bytes.now in key_at _ _ _ (Whole bs) (heads_whole bs) _ (code_read bs).1 _ _ c.code_at.ensures.whole

use Rattle.text.proofs.Cuts.{cut_word}
use Rattle.text.proofs.words.cut_word.Goals as goal

pub returns : goal.returns
returns c =
    let run = c.word_length.ensures in
    cut_word c.args.text.now c.trim_ascii_start-text.result.now c.split_at.result.0.now c.split_at.result.1.now c.word_length.result
    c.trim_ascii_start-text.ensures.value run.within run.solid run.stops c.split_at.ensures.front c.split_at.ensures.back

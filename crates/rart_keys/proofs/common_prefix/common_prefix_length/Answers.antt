use Rattle.rart_keys.proofs.strings.CommonPrefixes.{greatest_from_value}
use Rattle.rart_keys.proofs.common_prefix.common_prefix_length.Goals as goal

pub returns-clause-greatest : goal.returns-clause-greatest
returns-clause-greatest c = greatest_from_value _ _ _ c.prefix_length_words.ensures

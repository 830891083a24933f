mod ChainLemmas
mod ReachLemmas

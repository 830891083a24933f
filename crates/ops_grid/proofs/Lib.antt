mod RowLemmas
mod FrontLemmas

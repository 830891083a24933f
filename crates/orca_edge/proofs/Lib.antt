mod WriteLemmas
mod OwedLemmas
mod EndsLemmas
mod CommaLemmas
mod WorkedWaits
mod WorkedNames
mod WorkedHttp

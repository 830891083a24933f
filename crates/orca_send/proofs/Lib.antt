mod WorkedSends

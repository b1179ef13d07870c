mod RowsMean

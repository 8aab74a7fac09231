mod ConstantRows
